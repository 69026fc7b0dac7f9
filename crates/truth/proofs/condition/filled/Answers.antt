-- A word of 64 bits is not cut.
use Rattle.std.proofs.Common.{sym, ap, mod-eq_of_lt, arith}
use Rattle.truth.specs.Tables.{table}
use Rattle.truth.specs.Same.{same_words}
use Rattle.truth.proofs.condition.filled.Goals as goal

pub returns : goal.returns
unfolding table
returns c = same_words _ _ (ap (λ w. table (λ _. w)) (sym (mod-eq_of_lt (omega arith))))
