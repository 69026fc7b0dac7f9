-- The words that were made are those of the operation.
use Rattle.std.proofs.Common.{rules}
use Rattle.truth.specs.Same.{is_made}
use Rattle.truth.proofs.condition.ConditionTruth.not.Goals as goal

pub returns : goal.returns
returns c = is_made _ _ _ (λ k l. search (rules, c.from_fn.ensures.items.at k 0 l))
