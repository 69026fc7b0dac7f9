-- What is left to prove of `looks_ahead`.
use Rattle.std.proofs.Common.{ltb, ap, ◌∙◌}
use Rattle.rule.specs.Reading.{records}
use Rattle.rule.proofs.Counts.{waits_ahead}
use Rattle.rule.proofs.table.Rule.looks_ahead.Goals as goal

pub returns : goal.returns
returns c = ap (ltb 0) c.waits.ensures.value ∙ waits_ahead (records c.args.self.now)
