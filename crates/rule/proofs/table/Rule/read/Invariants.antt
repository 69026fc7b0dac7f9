-- What the loop of `read` keeps.
use Rattle.std.proofs.Common.{◌≡◌, ◌+◌, ◌*◌, ◌≤◌, length, take}
use Rattle.rule.specs.Records.{Sound}
use Rattle.rule.specs.Reading.{read_from, preceded}
use Rattle.rule.proofs.table.Rule.read.Given as goal

abbrev pub invariant-loop-rest : goal.invariant-loop-rest
invariant-loop-rest l =
    (length l.table ≡ 32) × (5 * l.len + length l.rest ≡ length l.bytes) × (length l.bytes ≤ 160) × Sound (take l.len l.table)
    × (read_from 0 l.bytes ≡ preceded (take l.len l.table) (read_from l.len l.rest))

abbrev pub decreases-loop-rest : goal.decreases-loop-rest
decreases-loop-rest l = length l.rest
