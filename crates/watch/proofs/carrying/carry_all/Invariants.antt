-- The first points are carried.
use Rattle.std.proofs.Common.{◌≡◌, ◌++◌, take, drop}
use Rattle.logic.specs.Draws.{carried_points}
use Rattle.watch.proofs.carrying.carry_all.Given as goal

abbrev pub invariant-loop-point : goal.invariant-loop-point
invariant-loop-point l = l.point-items ≡ carried_points l.becomes (take l.point-index l.initial.point-items) ++ drop l.point-index l.initial.point-items
