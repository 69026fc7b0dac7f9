-- A record without arguments looks at the letters alone.
use Rattle.std.proofs.Common.{ap, ◌∙◌}
use Rattle.rule.specs.declared.record.Record.{Record}
use Rattle.rule.specs.Reading.{records}
use Rattle.truth.specs.Tables.{openly}
use Rattle.truth.specs.declared.table.Condition.{Condition}
use Rattle.instant.specs.Step as instant
use Rattle.logic.specs.Steps.{evaluated}
use Rattle.logic.specs.Tables.{row}
use Rattle.watch.proofs.Filling.{spelled_evaluated}
use Rattle.watch.proofs.fill.Filling.leaf.Goals as goal

pub returns : goal.returns
returns c =
    let rule = c.args.self.now.rule.now in
    let rs = records rule in
    let a = c.args.self.now.arrival.now in
    let j = c.args.j in
    let never = c.never-never.result in
    c.evaluate.ensures
    ∙ ap (λ (x : Record). evaluated openly x 0 (instant.lettered openly a.letters) never never never) c.record.ensures
    ∙ ap (λ (x : Condition). evaluated openly (row rs j) 0 (instant.lettered openly a.letters) x x x) c.never-never.ensures
    ∙ spelled_evaluated a.sample.letters a.letters a.spelled j (row rs j) (rule.sound j c.requires) 0 openly.never openly.never openly.never
