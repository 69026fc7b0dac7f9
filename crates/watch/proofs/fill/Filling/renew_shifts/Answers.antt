-- One more wait, and all of them.
use Rattle.std.proofs.Common.{◌+◌, ◌∙◌, length, get_or, set, ap, arith}
use Rattle.std.proofs.lemmas.List.Edits.{fill_by_more}
use Rattle.std.proofs.lemmas.List.FromFn.{fill_by_all}
use Rattle.truth.specs.Tables.{openly}
use Rattle.rule.specs.Reading.{records}
use Rattle.rule.specs.Components.{first_component}
use Rattle.logic.specs.Draws.{among}
use Rattle.logic.specs.Steps.{renewed}
use Rattle.logic.specs.Tables.{row}
use Rattle.watch.proofs.Filling.{before_at}
use Rattle.watch.proofs.fill.Filling.renew_shifts.Goals as goal

pub loop-s-preserved : goal.loop-s-preserved
loop-s-preserved c n l =
    let s = c.args.self.now in
    let rs = records s.rule.now in
    let vs = c.args.values.now in
    let own = c.loop-s.own in
    let i = c.loop-s.s in
    let is = c.put_or_never.ensures ∙ before_at vs c.renewed_from.result ∙ c.renewed_from.ensures vs in
    ap (λ v. get_or (set own i v) n openly.never) is
    ∙ fill_by_more (renewed openly (row rs c.args.j) s.arrival.now.gap (λ a m. among vs (first_component rs a + m)) c.args.j) own i openly.never (omega arith) c.loop-s.invariant n l

pub returns : goal.returns
returns c =
    let s = c.args.self.now in
    let rs = records s.rule.now in
    let vs = c.args.values.now in
    fill_by_all (renewed openly (row rs c.args.j) s.arrival.now.gap (λ a n. among vs (first_component rs a + n)) c.args.j)
    c.loop-s.own (length c.args.own.now) openly.never c.loop-s.auto.own (λ n l. c.loop-s.invariant n (omega arith))
