-- One wait fewer, which does not matter.
use Rattle.std.proofs.Common.{◌≡◌, suc, ◌-◌, ◌%◌, ◌^◌, ap, refl, ◌∙◌, arith}
use native.Mathlib.Nat.{two-pow-succ}
use Rattle.truth.specs.Replacing.{partly}
use Rattle.truth.proofs.Parts.{aligned, part_same}
use Rattle.truth.proofs.table.Condition.highest.Goals as goal

pub loop-w-preserved : goal.loop-w-preserved
loop-w-preserved c =
    let s = c.args.self.now in
    let w = c.loop-w.w - 1 in
    let from = c.args.from in
    let inv = c.loop-w.invariant in
    let next : suc w ≡ c.loop-w.w = omega (arith, c.loop-w-test.true) in
    let power = two-pow-succ w in
    let more = ap (λ x. 2 ^ x) next in (
      omega (arith, inv.0),
      omega (arith, inv.1),
      aligned from w (ap (λ x. from % 2 ^ x) next ∙ inv.2),
      λ cs. part_same cs s from w (partly cs s w from) refl (c.repeats.ensures c.if-not-repeats.false) ∙ ap (λ x. partly cs s x from) next ∙ inv.3 cs,
    )
