-- The places passed so far hold never.
use Rattle.std.proofs.Common.{◌≡◌, ℕ, ◌<◌, get_or}
use Rattle.instant.proofs.shelf.keep.Given as goal

abbrev pub invariant-loop-value : goal.invariant-loop-value
invariant-loop-value g l = let never = g.T.Truth.ops.never in (k : ℕ) → k < l.value-index → get_or l.before k never ≡ never
