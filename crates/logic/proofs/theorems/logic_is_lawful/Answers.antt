-- Stability and the one-step equations.
use Rattle.logic.specs.Logic.{Sat}
use Rattle.logic.proofs.Equations.{since_first, since_step, until_step}
use Rattle.logic.proofs.Stability.{stable}
use Rattle.logic.proofs.theorems.logic_is_lawful.Goals as goal

pub returns : goal.returns
returns c = record {
  stable = stable;
  start = λ ρ I f g. since_first ρ I (Sat ρ f) (Sat ρ g);
  since = λ ρ I f g. since_step ρ I (Sat ρ f) (Sat ρ g);
  until = λ ρ I f g. until_step ρ I (Sat ρ f) (Sat ρ g);
}
