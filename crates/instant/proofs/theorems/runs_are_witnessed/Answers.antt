-- What is left to prove of `runs_are_witnessed`.
use Rattle.instant.proofs.Runs.{runs_witnessed}
use Rattle.instant.proofs.theorems.runs_are_witnessed.Goals as goal

pub returns : goal.returns
returns g c = runs_witnessed g.T.Truth.ops g.met.T.Truth.laws
