-- What is left to prove of `wrong_watches_fail`.
use Rattle.logic.proofs.Wrong.{wrong_watches_fail}
use Rattle.logic.proofs.theorems.wrong_watches_fail.Goals as goal

pub returns : goal.returns
returns c = wrong_watches_fail
