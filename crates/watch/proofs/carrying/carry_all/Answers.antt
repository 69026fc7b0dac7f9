-- One point more is carried.
use Rattle.std.proofs.Common.{get_or, set, sym, ap, ◌∙◌, arith}
use Rattle.std.proofs.lemmas.List.Edits.{map_over_more}
use Rattle.truth.specs.declared.table.Condition.{Condition}
use Rattle.truth.specs.Replacing.{replaced}
use Rattle.logic.specs.declared.verdict.HeldPoint.{HeldPoint}
use Rattle.watch.proofs.carrying.carry_all.Goals as goal

pub loop-point-preserved : goal.loop-point-preserved
loop-point-preserved c =
    let ws = c.args.becomes.now in
    let ys = c.loop-point.point-items in
    let i = c.loop-point.point-index in
    let x = c.point-item.result in
    let with : HeldPoint → Condition → HeldPoint = λ h d. record { point = h.point; condition = d } in
    let f : HeldPoint → HeldPoint = λ h. with h (replaced ws h.condition) in
    ap (λ d. set ys i (with (get_or ys i x) d)) c.replaced-point.ensures ∙ ap (λ h. set ys i (f h)) (sym c.point-item.is)
    ∙ map_over_more f c.args.points.now ys i x (omega arith) c.loop-point.invariant c.point-item.is
