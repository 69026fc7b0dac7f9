-- The points that are treated.
use Rattle.std.proofs.Common.{◌≡◌, ◌+◌, List, length, take, drop, sym, ap, ◌∙◌, arith}
use Rattle.feed.specs.Lists.{onto}
use Rattle.std.proofs.lemmas.List.{length-append, length-drop, length-map, length_push, length-take-le, take-append-le}
use Rattle.logic.specs.declared.verdict.HeldPoint.{HeldPoint}
use Rattle.logic.specs.Draws.{Treated, carried_points, treated_all}
use Rattle.watch.specs.Treatments.{untreated}
use Rattle.watch.proofs.Treated.{with_new}
use Rattle.watch.proofs.treating.treat_with.Goals as goal

pub returns : goal.returns
returns c =
    let held = c.args.held.now in
    let n = c.args.count in
    let new = c.args.new in
    let ys = carried_points (take c.args.waits c.args.becomes.now) (take n held) in
    let C = c.carry_all.new.points in
    let rest = drop n held in
    let T : List HeldPoint → Treated = treated_all untreated in
    let room = c.requires.room in
    let carried : C ≡ ys = c.carry_all.ensures in
    let long : length C ≡ n = ap length carried ∙ length-map (take n held) _ ∙ length-take-le n held (omega arith) in
    let behind = length-drop n held in
    let whole = length-append C rest in
    let is = with_new C rest ys n new carried long (omega arith) in
    let size = ap length is ∙ length_push ys new in
    let same = ap length carried in
    let more : length ys + 1 ≡ n + 1 = omega arith in
    let sum = c.treat_all.ensures.sum in
    let kept = c.treat_all.auto.points in
    record {
      held = take-append-le c.treat_all.result c.treat_all.new.points _ (omega arith) ∙ c.treat_all.ensures.held ∙ ap (λ l. (T l).held) is;
      lines = c.treat_all.ensures.lines ∙ ap (λ l. onto (T l).lines c.args.tray.now) is;
      sum = ap (λ l. c.treat_all.result + length (T l).lines) (sym is) ∙ c.treat_all.ensures.sum ∙ size ∙ more;
    }
