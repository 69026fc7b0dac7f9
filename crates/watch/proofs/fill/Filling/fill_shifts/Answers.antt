-- One more shift, and all of them.
use Rattle.std.proofs.Common.{◌≡◌, ℕ, Option, ◌∙◌, length, get_or, set, ap, ap₂, arith}
use Rattle.std.proofs.lemmas.List.Edits.{fill_by_more}
use Rattle.std.proofs.lemmas.List.FromFn.{fill_by_all}
use Rattle.truth.specs.Tables.{openly}
use Rattle.truth.specs.declared.table.Condition.{Condition}
use Rattle.rule.specs.declared.record.Record.{Record}
use Rattle.rule.specs.Reading.{records}
use Rattle.rule.specs.Components.{first_component, left_of, right_of}
use Rattle.instant.specs.Step as instant
use Rattle.logic.specs.Draws.{among, conditioned}
use Rattle.logic.specs.Steps.{evaluated}
use Rattle.logic.specs.Tables.{row}
use Rattle.logic.specs.Values.{at_shift_or}
use Rattle.watch.proofs.Filling.{spelled_evaluated}
use Rattle.watch.proofs.fill.Filling.fill_shifts.Goals as goal

pub loop-s-preserved : goal.loop-s-preserved
loop-s-preserved c n l =
    let f = c.args.self.now in
    let rule = f.rule.now in
    let rs = records rule in
    let a = f.arrival.now in
    let j = c.args.j in
    let vs = c.args.earlier.now in
    let own = c.loop-s.own in
    let s = c.loop-s.s in
    let r = row rs j in
    let at : Option ℕ → Condition = λ o. at_shift_or (λ x. among vs (first_component rs x)) openly.never o in
    let left : c.argument-left.result ≡ at (left_of r) = c.argument-left.ensures ∙ ap at (c.left.ensures ∙ ap left_of c.record-record.ensures) in
    let right : c.argument-right.result ≡ at (right_of r) = c.argument-right.ensures ∙ ap at (c.right.ensures ∙ ap right_of c.record-record.ensures) in
    let is =
    c.evaluate.ensures
    ∙ ap (λ (x : Record). evaluated openly x s (instant.lettered openly a.letters) c.argument-left.result c.argument-right.result c.given-across.result) c.record-record.ensures
    ∙ ap₂ (λ x y. evaluated openly r s (instant.lettered openly a.letters) x y c.given-across.result) left right
    ∙ ap (evaluated openly r s (instant.lettered openly a.letters) (at (left_of r)) (at (right_of r))) c.given-across.ensures
    ∙ spelled_evaluated a.sample.letters a.letters a.spelled j r (rule.sound j c.requires.within) s (at (left_of r)) (at (right_of r)) _ in
    ap (λ v. get_or (set own s v) n openly.never) is
    ∙ fill_by_more (conditioned rs a.sample.letters a.gap f.before.now vs c.args.becomes.now j) own s openly.never (omega arith) c.loop-s.invariant n l

pub returns : goal.returns
returns c =
    let s = c.args.self.now in
    let a = s.arrival.now in
    fill_by_all (conditioned (records s.rule.now) a.sample.letters a.gap s.before.now c.args.earlier.now c.args.becomes.now c.args.j)
    c.loop-s.own (length c.args.own.now) openly.never c.loop-s.auto.own (λ n l. c.loop-s.invariant n (omega arith))
