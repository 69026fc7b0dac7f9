-- Plain values say what is true.
use Rattle.logic.proofs.Plain.{plain_tells}
use Rattle.logic.proofs.theorems.past_values_tell_truth.Goals as goal

pub returns : goal.returns
returns c = plain_tells
