-- Conditions say what is true.
use Rattle.logic.proofs.Newest.{sound_newest, sound}
use Rattle.logic.proofs.Verdicts.{sound_table}
use Rattle.logic.proofs.theorems.conditions_are_sound.Goals as goal

pub returns : goal.returns
returns c = record { newest = sound_newest; points = sound; table = sound_table }
