-- The held points before the k-th are put behind the text.
use Rattle.std.proofs.Common.{◌≡◌, ◌++◌, drop, vec_items}
use Rattle.printing.specs.Reports.{held_reports, printed}
use Rattle.watch.specs.States.{state}
use Rattle.printing.proofs.ending.put_held.Given as goal

abbrev pub invariant-loop-k : goal.invariant-loop-k
invariant-loop-k l =
    let held = (state l.watch).held in
    vec_items l.out ++ printed (held_reports (drop l.k held)) ≡ vec_items l.initial.out ++ printed (held_reports held)
