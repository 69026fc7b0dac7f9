-- All values of the record are filled in.
use Rattle.std.proofs.Common.{length, get_or, arith}
use Rattle.std.proofs.lemmas.List.FromFn.{fill_by_all}
use Rattle.rule.specs.declared.record.Record.TheVariants.{True}
use Rattle.rule.specs.Reading.{records}
use Rattle.rule.specs.Components.{first_component}
use Rattle.instant.specs.Step.{valued}
use Rattle.instant.proofs.shelf.Step.fill_shifts.Goals as goal

pub returns : goal.returns
returns g c =
    let k = g.T.Truth.ops in
    let s = c.args.self.now in
    let rs = records s.rule.now in
    fill_by_all (λ n. valued k rs s.letters.now s.gap c.args.earlier.now s.before.now (get_or rs c.args.j True) (first_component rs c.args.j) n)
    c.loop-s.own (length c.args.own.now) k.never c.loop-s.auto.own (λ n l. c.loop-s.invariant n (omega arith))
