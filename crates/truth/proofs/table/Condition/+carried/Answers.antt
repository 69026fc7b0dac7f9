-- One wait after another, from the highest that matters down.
use Rattle.std.proofs.Common.{◌+◌, ◌%◌, ◌^◌, ◌<◌, length, refl, ap, ◌∙◌, arith, rules}
use native.Mathlib.Nat.{two-pow-succ}
use Rattle.std.proofs.lemmas.Nat.{one_shl}
use Rattle.std.proofs.lemmas.List.{get_or_read_under}
use Rattle.truth.specs.Tables.{openly}
use Rattle.truth.proofs.Parts.{aligned, aligned_high, part_none, part_more}
use Rattle.truth.proofs.table.Condition.+carried.Goals as goal

pub returns-in_default : goal.returns-in_default
returns-in_default t c =
    part_none c.args.by.now c.args.self.now c.args.from c.from.result c.value_at.result c.from.ensures c.value_at.ensures
    ∙ c.in_default.ensures.none refl c.args.by.now

pub carried-low-requires : goal.carried-low-requires
carried-low-requires t c =
    let w = c.in-Some.w in
    let most = c.in-Some.ensures.some in
    let power = two-pow-succ w in
    let few = c.requires.few in
    let given = c.requires.given in
    let falls : w < t = search rules in
    (falls, (omega arith, (omega (arith, most.1.0), (aligned c.args.from w most.1.1, omega arith))))

pub carried-high-requires : goal.carried-high-requires
carried-high-requires t c =
    let w = c.in-Some.w in
    let from = c.args.from in
    let most = c.in-Some.ensures.some in
    let power = two-pow-succ w in
    let few = c.requires.few in
    let given = c.requires.given in
    let shift = one_shl w 64 (omega arith) in
    let falls : w < t = search rules in
    (falls, (omega arith, (omega (arith, most.1.0), (ap (λ x. (from + x) % 2 ^ w) shift ∙ aligned_high from w most.1.1, omega arith))))

pub returns : goal.returns
returns t c =
    let cs = c.args.by.now in
    let s = c.args.self.now in
    let w = c.in-Some.w in
    let from = c.args.from in
    let few = c.requires.few in
    let given = c.requires.given in
    let most = c.in-Some.ensures.some in
    let d = c.index-by-w.result in
    let high = c.carried-high.result in
    let low = c.carried-low.result in
    part_more cs s from w
    d low high (openly.both d high) (openly.not d) (openly.both (openly.not d) low) c.choose.result _
    (get_or_read_under cs w (length cs) d openly.never c.index-by-w.is (omega arith) refl)
    c.carried-low.ensures c.carried-high.ensures (one_shl w 64 (omega arith))
    refl refl refl c.choose.ensures
    ∙ c.in-Some.ensures.same cs
