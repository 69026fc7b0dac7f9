-- The things from the last one on are put.
use Rattle.std.proofs.Common.{◌≡◌, drop}
use Rattle.watch.proofs.fronts.put_all.Given as goal

abbrev pub invariant-loop-k : goal.invariant-loop-k
invariant-loop-k g l = drop l.k l.to ≡ drop l.k l.from
