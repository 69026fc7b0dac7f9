-- What is left to prove of `tables_are_sound`.
use Rattle.rule.proofs.Readings.{tables_sound}
use Rattle.rule.proofs.read.tables_are_sound.Goals as goal

pub returns : goal.returns
returns c = tables_sound
