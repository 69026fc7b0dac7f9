-- The lines so far are counted.
use Rattle.std.proofs.Common.{◌≡◌, take}
use Rattle.speed.specs.Tallies.{tallied}
use Rattle.speed.proofs.tally.Tally.add_all.Given as goal

abbrev pub invariant-loop-line : goal.invariant-loop-line
invariant-loop-line l = l.self ≡ tallied l.initial.self (take l.line-index l.lines)
