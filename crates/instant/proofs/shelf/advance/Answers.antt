-- The newest values and, behind them, those of the point before.
use Rattle.std.proofs.Common.{◌++◌, length, take, drop, ap, ◌∙◌, ap₂, arith}
use Rattle.rule.specs.Reading.{records}
use Rattle.rule.specs.Components.{components}
use Rattle.instant.specs.Step.{newest, kept, is_first}
use Rattle.feed.specs.Lists.{onto}
use Rattle.instant.proofs.Kept.{kept_front}
use Rattle.instant.proofs.Values.{step_made}
use Rattle.instant.proofs.shelf.advance.Goals as goal

pub returns : goal.returns
returns g c =
    let k = g.T.Truth.ops in
    let rs = records c.args.rule.now in
    let ls = c.args.letters.now in
    let gap = c.args.gap in
    let S = c.args.shelf.now in
    let n = components rs in
    let at = c.components-n.ensures.value in
    let front = c.split_at_mut-values.ensures.front ∙ ap (λ i. take i S) at in
    let back = c.split_at_mut-values.ensures.back ∙ ap (λ i. drop i S) at in
    let before = c.renew.ensures.before ∙ ap (λ vs. kept k (is_first gap) (length vs) vs) front ∙ kept_front k (is_first gap) n S (omega (arith, c.requires)) in
    ap₂ (λ X Y. X ++ Y)
    (c.renew.ensures.newest ∙ ap₂ (λ B vs. onto (newest k rs ls gap B) vs) before front)
    (ap₂ (λ B D. B ++ D) before (ap₂ (λ i D. drop i D) at back))
    ∙ step_made k rs ls gap S c.requires
