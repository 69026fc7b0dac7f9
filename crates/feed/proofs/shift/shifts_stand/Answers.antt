-- What a shift keeps.
use Rattle.feed.proofs.Standing.{sound_shifted}
use Rattle.feed.proofs.shift.shifts_stand.Goals as goal

pub returns : goal.returns
returns c = sound_shifted
