-- A draw is given a tray of the size that the definitions say.
use Rattle.std.proofs.Common.{◌≡◌, ℕ, min, length, take, replicate, sym, ap, ◌∙◌, arith}
use Rattle.std.proofs.lemmas.List.{length-take, length-replicate}
use Rattle.logic.specs.declared.verdict.Line.{Line}
use Rattle.logic.specs.declared.verdict.Line.TheVariants.{True}
use Rattle.logic.specs.Draws.{draw_answer, draw_rest, draw_state}
use Rattle.watch.specs.declared.call.Answer.TheVariants.{Draw}
use Rattle.watch.specs.declared.call.Call.{Call}
use Rattle.watch.specs.States.{state}
use Rattle.watch.specs.Calls.{answer_to, drawing_of, entries_after, state_after, tray_of}
use Rattle.watch.proofs.watch.Watch.answer.Goals as goal

-- the length of the part of a tray that a draw is given
part_length : (x : Line) (n k : ℕ) → k ≡ min n 129 → length (take k (replicate 129 x)) ≡ tray_of n
part_length x n k e = omega (arith, length-take k (replicate 129 x), length-replicate 129 x)

pub returns-in-Draw : goal.returns-in-Draw
returns-in-Draw g c =
    let st = state c.args.self.now in
    let es = g.F.Feed.entries c.args.feed.now in
    let nowhere : Line = True c.default.result in
    let size = part_length nowhere c.in-Draw.size c.min-n.result c.min-n.ensures in
    record {
      answer = ap Draw (c.draw.ensures.answer ∙ ap (λ n. draw_answer st es n) size) ∙ sym (ap (λ (x : Call). answer_to st es x) c.in-Draw.is);
      state = c.draw.ensures.state ∙ ap (λ n. draw_state st es n) size ∙ sym (ap (λ (x : Call). state_after st es (drawing_of x)) c.in-Draw.is);
      entries = c.draw.ensures.entries ∙ ap (λ n. draw_rest st es n) size ∙ sym (ap (λ (x : Call). entries_after st es (drawing_of x)) c.in-Draw.is);
    }
