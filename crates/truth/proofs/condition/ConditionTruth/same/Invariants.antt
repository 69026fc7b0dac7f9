-- The conditions agree exactly where the words that are still to come do.
use Rattle.std.proofs.Common.{◌≡◌, length}
use Rattle.truth.proofs.condition.ConditionTruth.same.Given as goal

abbrev pub invariant-loop-own : goal.invariant-loop-own
invariant-loop-own l =
    (length l.own-iterator.a.rest.now ≡ length l.own-iterator.b.rest.now)
    × (l.own-iterator.a.rest.now ≡ l.own-iterator.b.rest.now → l.self.words ≡ l.other.words)
    × (l.self.words ≡ l.other.words → l.own-iterator.a.rest.now ≡ l.own-iterator.b.rest.now)
