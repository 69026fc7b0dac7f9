-- The words that were made fit, and are those of the wait.
use Rattle.std.proofs.Common.{◌≡◌, ◌+◌, ◌*◌, rules}
use Rattle.truth.specs.Words.{bit}
use Rattle.truth.specs.Replacing.{packed}
use Rattle.truth.specs.Same.{is_made}
use Rattle.truth.proofs.Made.{made_at}
use Rattle.truth.proofs.table.Condition.wait.Goals as goal

pub returns : goal.returns
returns c = is_made _ _ _ (made_at _ (λ i y. y ≡ packed (λ j. bit (64 * i + j) c.args.w) 64) 0 _ _ 16 c.from_fn.ensures.items (λ i y q m. (search rules, search rules)))
