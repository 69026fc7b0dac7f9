-- What every layer keeps, by the law of what it makes of contents.
use Rattle.feed.proofs.Standing.{sound_layered}
use Rattle.feed.proofs.layer.layers_stand.Goals as goal

pub returns : goal.returns
returns g c t own = sound_layered (g.T.Turn.turned t own) (g.met.T.Turn.clear t own)
