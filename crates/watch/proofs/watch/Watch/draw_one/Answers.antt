-- The entry that was drawn is taken: the others are still to come.
use Rattle.std.proofs.Common.{◌≡◌, length, Some, sym, ap, ◌∙◌, arith}
use Rattle.std.proofs.lemmas.List.{length-take-le}
use Rattle.feed.specs.Lists.{first, others}
use Rattle.logic.specs.Draws.{Drawn, draw_rest}
use Rattle.watch.specs.States.{state}
use Rattle.watch.proofs.Drawn.{content_rest, draw_is}
use Rattle.watch.proofs.watch.Watch.draw_one.Goals as goal

pub returns-clause-entries : goal.returns-clause-entries
returns-clause-entries g c =
    let w = c.args.self.now in
    let st = state w in
    let es = g.F.Feed.entries c.args.feed.now in
    let e = c.in_ok-entry.entry in
    let few = w.held_few in
    let low = w.slots_few in
    let long = w.held_long in
    let size = length-take-le w.count w.held (omega arith) in
    let drawn : c.draw.result ≡ Some e = c.in_ok-entry.ensures.ok_part in
    let taken : Some e ≡ first es = sym drawn ∙ c.draw.ensures.gives in
    let n = length c.args.tray.now in
    let rest : draw_rest st es n ≡ others es =
    ap (λ (d : Drawn). d.rest) (draw_is st es n e (omega arith) (omega arith) taken) ∙ content_rest st (others es) e.place e.content in
    c.draw.ensures.leaves ∙ sym rest
