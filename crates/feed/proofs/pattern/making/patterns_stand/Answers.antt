-- What holds of the entries of any pattern.
use Rattle.feed.proofs.Standing.{sound_pattern}
use Rattle.feed.proofs.pattern.making.patterns_stand.Goals as goal

pub returns : goal.returns
returns c = sound_pattern
