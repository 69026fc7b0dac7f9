-- The step of a since, by the laws of the kind of truth.
use Rattle.logic.proofs.Witness.{since_step_zero, since_step_suc}
use Rattle.logic.proofs.theorems.since_is_its_witness_form.Goals as goal

pub returns : goal.returns
returns g c = record {
  starts = since_step_zero g.T.Truth.ops g.met.T.Truth.laws;
  steps = since_step_suc g.T.Truth.ops g.met.T.Truth.laws;
}
