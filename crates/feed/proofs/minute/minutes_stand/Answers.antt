-- What minutes keep.
use Rattle.feed.proofs.Standing.{minutes_rise, sound_minutes}
use Rattle.feed.proofs.minute.minutes_stand.Goals as goal

pub returns : goal.returns
returns c = record { sound = sound_minutes; order = minutes_rise }
