-- A record's formula is built from those of its arguments.
use Rattle.logic.proofs.Formulas.{formula_built}
use Rattle.logic.proofs.theorems.formulas_are_built.Goals as goal

pub returns : goal.returns
returns c = formula_built
