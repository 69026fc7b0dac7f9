-- Constant and equal conditions, under every continuation.
use Rattle.logic.proofs.Continued.{continues}
use Rattle.logic.proofs.Verdicts.{sound_true, sound_false, sound_joined}
use Rattle.logic.proofs.theorems.verdicts_are_sound.Goals as goal

pub returns : goal.returns
returns c = record { always = sound_true; never = sound_false; joined = sound_joined; continues = continues }
