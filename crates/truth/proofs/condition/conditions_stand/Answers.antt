-- What the operations on conditions mean.
use Rattle.truth.specs.Meaning.{meant}
use Rattle.truth.proofs.condition.conditions_stand.Goals as goal

pub returns : goal.returns
returns c = meant
