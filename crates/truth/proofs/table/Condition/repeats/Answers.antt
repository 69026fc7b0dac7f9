-- Within a word the bits are compared, else whole words.
use Rattle.std.proofs.Common.{◌+◌, ◌-◌, ◌/◌, ◌%◌, ◌^◌, ◌<◌, ap, ◌∙◌, arith}
use native.Mathlib.Nat.{two-pow-succ}
use Rattle.std.proofs.lemmas.Nat.{one_shl, pow_below}
use Rattle.truth.specs.Words.{bit}
use Rattle.truth.specs.Tables.{word}
use Rattle.truth.proofs.Repeats.{inner_same, outer_pow, outer_same}
use Rattle.truth.proofs.table.Condition.repeats.Goals as goal

pub bits_repeat-requires : goal.bits_repeat-requires
bits_repeat-requires c =
    let low = c.if-w-lt-INNER_WAITS.true in
    let power : 2 ^ c.args.w < 64 = pow_below c.args.w 6 low in
    omega (arith, one_shl c.args.w 64 (omega arith))

pub words_repeat-requires : goal.words_repeat-requires
words_repeat-requires c =
    let w = c.args.w in
    let high = c.if-w-lt-INNER_WAITS.false in
    let few = c.requires.few in
    let room = c.requires.room in
    let shift = one_shl (w - 6) 64 (omega arith) in
    let power = outer_pow w high in
    let double = two-pow-succ w in
    omega arith

pub returns-then-w-lt-INNER_WAITS : goal.returns-then-w-lt-INNER_WAITS
returns-then-w-lt-INNER_WAITS c e =
    let s = c.args.self.now in
    let w = c.args.w in
    let from = c.args.from in
    let low = c.if-w-lt-INNER_WAITS.true in
    let shift = one_shl w 64 (omega arith) in
    let x = word s (from / 64) / 2 ^ (from % 64) in
    inner_same s w from c.requires.start low
    (λ k l. c.bits_repeat.ensures e k (omega arith) ∙ ap (λ n. bit x (n + k)) shift)

pub returns-else-w-lt-INNER_WAITS : goal.returns-else-w-lt-INNER_WAITS
returns-else-w-lt-INNER_WAITS c e =
    let s = c.args.self.now in
    let w = c.args.w in
    let from = c.args.from in
    let few = c.requires.few in
    let shift = one_shl (w - 6) 64 (omega arith) in
    outer_same s w from c.requires.start c.if-w-lt-INNER_WAITS.false
    (λ k l. c.words_repeat.ensures e k (omega arith) ∙ ap (λ n. word s (from / 64 + n + k)) shift)
