-- The first points are treated.
use Rattle.watch.proofs.Treated.{Progress}
use Rattle.watch.proofs.treating.treat_all.Given as goal

abbrev pub invariant-loop-i : goal.invariant-loop-i
invariant-loop-i l = Progress l.initial.points l.initial.tray l.i l.points l.tray l.count
