-- What is left to prove of `fill`.
use Rattle.std.proofs.Common.{◌≡◌, suc, ◌+◌, ◌<◌, ◌≤◌, length, sym, ap, ◌∙◌, arith, rules}
use Rattle.std.proofs.lemmas.List.Sums.{sum_by-take-le}
use Rattle.feed.specs.Lists.{onto}
use Rattle.rule.specs.Reading.{records}
use Rattle.rule.specs.Components.{first_component, own_waits}
use Rattle.rule.proofs.Numbering.{first_le}
use Rattle.logic.specs.Draws.{filled}
use Rattle.watch.proofs.Filling.{values_more, becomes_more}
use Rattle.watch.proofs.fill.fill.Goals as goal

pub slice_bounds-fill_row-end : goal.slice_bounds-fill_row-end
slice_bounds-fill_row-end c =
    let rs = records c.args.rule.now in
    let h : c.first_wait-known.result ≤ length c.loop-j.becomes = omega (arith, c.first_wait-known.ensures.value, sum_by-take-le own_waits rs c.loop-j.j, c.requires.becomes, c.loop-j.invariant.1) in
    search rules

pub slice_bounds-renew_row-end : goal.slice_bounds-renew_row-end
slice_bounds-renew_row-end c =
    let rs = records c.args.rule.now in
    let h : c.first_component-filled.result ≤ length c.fill_row.new.values = omega (arith, c.first_component-filled.ensures.value, first_le rs (c.loop-j.j + 1), c.requires.values, c.loop-j.invariant.0) in
    search rules

pub loop-j-preserved : goal.loop-j-preserved
loop-j-preserved c =
    let rs = records c.args.rule.now in
    let w = c.args.arrival.now.sample.letters in
    let gap = c.args.arrival.now.gap in
    let before = c.args.before.now in
    let S = c.args.values.now in
    let W = c.args.becomes.now in
    let j = c.loop-j.j in
    let lt : j < length rs = omega (arith, c.len-j-end.ensures.value) in
    let next : suc j ≡ j + 1 = omega arith in
    let known = c.first_wait-known.ensures.value in
    let full : c.first_component-filled.result ≡ first_component rs (suc j) = omega (arith, c.first_component-filled.ensures.value ∙ ap (first_component rs) (sym next)) in
    let R = c.loop-j.values in
    let Q = c.loop-j.becomes in
    let r = c.loop-j.invariant.2 in
    let q = c.loop-j.invariant.3 in
    let R' = c.fill_row.new.values in
    let x = values_more rs w gap before S W j lt R Q r q R' c.first_wait-known.result known c.fill_row.ensures in
    let y = becomes_more rs w gap before S W j lt R Q r q R' c.renew_row.new.becomes c.first_component-filled.result full x c.renew_row.ensures in (
      omega (arith, c.fill_row.auto.values, c.loop-j.invariant.0),
      omega (arith, c.renew_row.auto.becomes, c.loop-j.invariant.1),
      x ∙ ap (λ n. onto (filled rs w gap before n).values S) next,
      y ∙ ap (λ n. onto (filled rs w gap before n).becomes W) next,
    )
