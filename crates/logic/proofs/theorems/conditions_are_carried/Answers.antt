-- Conditions go record by record and from point to point.
use Rattle.logic.proofs.Carrying.{component_step, newest_table, carried_table}
use Rattle.logic.proofs.Locality.{local_component, local_table}
use Rattle.logic.proofs.theorems.conditions_are_carried.Goals as goal

pub returns : goal.returns
returns c = record { records = component_step; newest = newest_table; carried = carried_table; beneath = local_component; within = local_table }
