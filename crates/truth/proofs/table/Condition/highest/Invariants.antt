-- The waits passed over so far do not matter.
use Rattle.std.proofs.Common.{◌≡◌, ◌+◌, ◌%◌, ◌^◌, ◌≤◌, List}
use Rattle.truth.specs.Words.{settings}
use Rattle.truth.specs.Replacing.{partly}
use Rattle.truth.specs.declared.table.Condition.{Condition}
use Rattle.truth.proofs.table.Condition.highest.Given as goal

abbrev pub invariant-loop-w : goal.invariant-loop-w
invariant-loop-w l =
    (l.w ≤ l.waits) × (l.from + 2 ^ l.w ≤ settings) × (l.from % 2 ^ l.w ≡ 0)
    × ((cs : List Condition) → partly cs l.self l.w l.from ≡ partly cs l.self l.waits l.from)
