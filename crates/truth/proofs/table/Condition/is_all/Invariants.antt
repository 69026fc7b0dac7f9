-- The words compared so far are that word.
use Rattle.std.proofs.Common.{◌≡◌, ℕ, ◌<◌}
use Rattle.truth.specs.Tables.{word}
use Rattle.truth.proofs.table.Condition.is_all.Given as goal

abbrev pub invariant-loop-i : goal.invariant-loop-i
invariant-loop-i l = (k : ℕ) → k < l.i → word l.self k ≡ l.word
