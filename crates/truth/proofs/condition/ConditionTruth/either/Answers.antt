-- The words that were made fit, and are those of the operation.
use Rattle.std.proofs.Common.{◌≡◌, rules}
use lib.Bits.{bit_or, or_lt}
use Rattle.truth.specs.Tables.{word}
use Rattle.truth.specs.Same.{is_made}
use Rattle.truth.proofs.Made.{made_at}
use Rattle.truth.proofs.condition.ConditionTruth.either.Goals as goal

pub invariant_of-result-clause-fit : goal.invariant_of-result-clause-fit
invariant_of-result-clause-fit c = λ i l. search (rules, c.from_fn.ensures.items.at i 0 l, or_lt 64 _ _ (c.args.self.fit i l) (c.args.other.fit i l))

pub returns : goal.returns
returns c = is_made _ _ _ (made_at _ (λ i y. y ≡ bit_or (word c.args.self i) (word c.args.other i)) 0 _ _ 16 c.from_fn.ensures.items (λ i y q m. (search rules, search rules)))
