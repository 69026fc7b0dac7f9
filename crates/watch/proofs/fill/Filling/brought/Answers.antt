-- Where nothing lies across the gap, never is carried to never.
use Rattle.std.proofs.Common.{rules}
use Rattle.watch.proofs.Filling.{brought_past}
use Rattle.watch.proofs.fill.Filling.brought.Goals as goal

pub returns-in-None : goal.returns-in-None
returns-in-None c = search (rules, brought_past)
