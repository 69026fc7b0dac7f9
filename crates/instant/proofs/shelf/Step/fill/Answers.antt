-- One more record, and all of them.
use Rattle.std.proofs.Common.{◌≡◌, ◌<◌, ◌++◌, length, get_or, take, sym, ap, ◌∙◌, arith}
use Rattle.rule.specs.declared.record.Record.TheVariants.{True}
use Rattle.rule.specs.Reading.{records}
use Rattle.rule.specs.Components.{first_component}
use Rattle.instant.specs.Step.{row}
use Rattle.feed.specs.Lists.{onto}
use Rattle.instant.proofs.Values.{front, front_more, front_all, length_front, rows_more}
use Rattle.instant.proofs.shelf.Step.fill.Goals as goal

pub loop-j-preserved : goal.loop-j-preserved
loop-j-preserved g c =
    let k = g.T.Truth.ops in
    let s = c.args.self.now in
    let rs = records s.rule.now in
    let ls = s.letters.now in
    let bs = s.before.now in
    let S = c.args.values.now in
    let j = c.loop-j.j in
    let l : j < length rs = omega arith in
    c.fill_row.ensures
    ∙ ap (λ X. onto (take (first_component rs j) X ++ row k rs ls s.gap (take (first_component rs j) X) bs (get_or rs j True)) X) c.loop-j.invariant
    ∙ rows_more k rs ls s.gap bs (front k rs ls s.gap bs j) S j l c.requires (length_front k rs ls s.gap bs j (omega arith))
    ∙ ap (λ V. onto V S) (sym (front_more k rs ls s.gap bs j l))

pub returns : goal.returns
returns g c =
    let k = g.T.Truth.ops in
    let s = c.args.self.now in
    let rs = records s.rule.now in
    let S = c.args.values.now in
    let end : c.loop-j.j ≡ length rs = omega arith in
    c.loop-j.invariant
    ∙ ap (λ j. onto (front k rs s.letters.now s.gap s.before.now j) S) end
    ∙ ap (λ V. onto V S) (front_all k rs s.letters.now s.gap s.before.now)
