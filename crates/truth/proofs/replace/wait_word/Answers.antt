-- The word of a wait, by its bits.
use Rattle.std.proofs.Common.{sym, ◌∙◌, arith, lit<}
use Rattle.std.proofs.lemmas.Bool.{eq-eqb, ne_eqb}
use Rattle.truth.specs.Digits.{bit_full, bit_zero}
use Rattle.truth.proofs.Waits.{inner_word, is_packed, outer_bit, past_bit}
use Rattle.truth.proofs.replace.wait_word.Goals as goal
use Rattle.truth.proofs.replace.wait_word.Goals.{else-w-lt-WAITS-via-then-w-lt-WAITS+else-i-w-eq1, else-w-lt-WAITS-via-else-w-lt-WAITS}

pub returns-then-w-lt-INNER_WAITS : goal.returns-then-w-lt-INNER_WAITS
returns-then-w-lt-INNER_WAITS c = inner_word c.args.w c.args.i c.if-w-lt-INNER_WAITS.true

pub returns-then-i-w-eq1 : goal.returns-then-i-w-eq1
returns-then-i-w-eq1 c =
    is_packed _ 64 _ (lit< tt)
    (λ k l. bit_full k l ∙ sym (outer_bit c.args.w c.args.i k c.if-w-lt-INNER_WAITS.false l ∙ eq-eqb _ 1 c.if-i-w-eq1.true))

pub returns-else-w-lt-WAITS : goal.returns-else-w-lt-WAITS
returns-else-w-lt-WAITS c =
    let high = c.if-w-lt-INNER_WAITS.false in
    is_packed _ 64 0 (lit< tt)
    (λ k l. bit_zero k ∙ sym (elim c.else-w-lt-WAITS.branch [
      | else-w-lt-WAITS-via-then-w-lt-WAITS+else-i-w-eq1 w ↦ outer_bit c.args.w c.args.i k high l ∙ ne_eqb _ 1 w.if-i-w-eq1.false
      | else-w-lt-WAITS-via-else-w-lt-WAITS w ↦ past_bit c.args.w _ w.if-w-lt-WAITS.false (omega (arith, c.requires))
    ]))
