-- Old points are settled, and open conditions of a flat rule are few.
use Rattle.logic.proofs.Few.{few_held}
use Rattle.logic.proofs.Numbered.{known_by_numbers}
use Rattle.logic.proofs.Settled.{settles}
use Rattle.logic.proofs.theorems.conditions_are_few.Goals as goal

pub returns : goal.returns
returns c = record { settles = settles; few = few_held; numbers = known_by_numbers }
