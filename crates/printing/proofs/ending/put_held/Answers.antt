-- The next held point is put behind the text, and none is left.
use Rattle.std.proofs.Common.{◌+◌, ◌<◌, ◌++◌, length, drop, vec_items, ap, ◌∙◌, arith}
use Rattle.printing.specs.Reports.{held_reports, printed}
use Rattle.watch.specs.States.{state}
use Rattle.printing.proofs.Prints.{held_more, held_some}
use Rattle.printing.proofs.ending.put_held.Goals as goal
use Rattle.printing.proofs.ending.put_held.Goals.{in-Some+in_ok-put_report, in_default}

pub loop-k-preserved : goal.loop-k-preserved
loop-k-preserved c =
    let held = (state c.args.watch.now).held in
    let k = c.loop-k.k in
    let left : k < length held = omega (arith, c.loop-k-test.true, c.held-k-end.ensures) in
    elim c.match-held_point.branch [
      | in-Some+in_ok-put_report w ↦
          ap (λ v. vec_items v ++ printed (held_reports (drop (k + 1) held))) w.out-is
          ∙ (held_more held k w.in-Some.point w.in-Some.ensures (vec_items c.loop-k.out) (vec_items w.put_report.new.out) _ c.loop-k.invariant w.in_ok-put_report.ensures).0
      | in_default w ↦ held_some held k left w.in_default.ensures
    ]
