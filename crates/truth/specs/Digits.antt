-- Bits of numbers.
use Rattle.std.specs.Prelude.{◌≡◌, ℕ, zero, suc, ◌-◌, ◌/◌, ◌%◌, ◌^◌, ◌<◌, Bool, true, false, not, ◌&&◌, ◌||◌, eqb, ◌⊎◌, ◌==◌, bit_xor, refl}
use Rattle.std.proofs.Common.{sym, ap, ◌∙◌, subst, mod-lt, mod-eq_of_lt, div-one, div-add-mod', arith, add-one, one-add, inl, inr, ⊎_elim}
use Rattle.std.proofs.Math.Nat.{zero-div}
use Rattle.std.specs.Int.Bits.{bit_and, bit_or, xor_add_and}
use Rattle.std.proofs.lemmas.Nat.{shr-shr, shr_below, and_shr, or_shr, xor_shr, and_mod, or_mod, xor_mod, and_mask}
use Rattle.std.proofs.lemmas.Bool.{eqb-true, and_parts, cases_lt}
use Rattle.truth.specs.Words.{bit}

digit_and : (x y : ℕ) → x < 2 → y < 2 → (bit_and x y == 1) ≡ (x == 1 && y == 1)
digit_and zero y p q = refl
digit_and (suc zero) zero p q = refl
digit_and (suc zero) (suc zero) p q = refl
digit_and (suc zero) (suc (suc y)) p q = absurd (omega arith)
digit_and (suc (suc x)) y p q = absurd (omega arith)

digit_or : (x y : ℕ) → x < 2 → y < 2 → (bit_or x y == 1) ≡ (x == 1 || y == 1)
digit_or zero y p q = refl
digit_or (suc zero) zero p q = refl
digit_or (suc zero) (suc zero) p q = refl
digit_or (suc zero) (suc (suc y)) p q = absurd (omega arith)
digit_or (suc (suc x)) y p q = absurd (omega arith)

digit_not : (x y : ℕ) → x < 2 → y < 2 → (y == 1) ≡ true → (bit_xor x y == 1) ≡ not (x == 1)
digit_not zero y p q e = e
digit_not (suc zero) zero p q e = sym e
digit_not (suc zero) (suc zero) p q e = refl
digit_not (suc zero) (suc (suc y)) p q e = absurd (omega arith)
digit_not (suc (suc x)) y p q e = absurd (omega arith)

low : (n : ℕ) → n % 2 < 2
low n = mod-lt n (omega arith)

pub bit_of_and : (a b k : ℕ) → bit (bit_and a b) k ≡ (bit a k && bit b k)
bit_of_and a b k =
    ap (λ n. eqb (n % 2) 1) (and_shr a b k) ∙ ap (λ n. eqb n 1) (and_mod (a / 2 ^ k) (b / 2 ^ k) 1)
    ∙ digit_and (a / 2 ^ k % 2) (b / 2 ^ k % 2) (low (a / 2 ^ k)) (low (b / 2 ^ k))

pub bit_of_or : (a b k : ℕ) → bit (bit_or a b) k ≡ (bit a k || bit b k)
bit_of_or a b k =
    ap (λ n. eqb (n % 2) 1) (or_shr a b k) ∙ ap (λ n. eqb n 1) (or_mod (a / 2 ^ k) (b / 2 ^ k) 1)
    ∙ digit_or (a / 2 ^ k % 2) (b / 2 ^ k % 2) (low (a / 2 ^ k)) (low (b / 2 ^ k))

-- whether p holds of each number below n, which is computed
unfoldable pub each_below : ℕ → (ℕ → Bool) → Bool
each_below zero p = true
each_below (suc n) p = p n && each_below n p

pub order : (k n : ℕ) → k < suc n → (k < n) ⊎ (k ≡ n)
order k n h = ⊎_elim inl (λ g. inr (omega arith)) (cases_lt k n)

pub below : (n : ℕ) (p : ℕ → Bool) → each_below n p ≡ true → (k : ℕ) → k < n → p k ≡ true
unfolding each_below
below zero p e k h = absurd (omega arith)
below (suc n) p e k h =
    let parts = and_parts (p n) (each_below n p) e in
    let P : ℕ → Type 0 = λ x. p x ≡ true in
    elim (order k n h) [ inl l ↦ below n p parts.1 k l | inr s ↦ subst P (sym s) parts.0 ]

pub bit_full : (k : ℕ) → k < 64 → bit (2 ^ 64 - 1) k ≡ true
unfolding each_below
bit_full k h = below 64 (bit (2 ^ 64 - 1)) refl k h

pub bit_zero : (k : ℕ) → bit 0 k ≡ false
bit_zero k = ap (λ n. eqb (n % 2) 1) (zero-div (2 ^ k))

xor_full : (a : ℕ) → a < 2 ^ 64 → 2 ^ 64 - 1 - a ≡ bit_xor a (2 ^ 64 - 1)
xor_full a h = omega (arith, xor_add_and a (2 ^ 64 - 1), and_mask a 64 ∙ mod-eq_of_lt h)

pub bit_of_not : (a k : ℕ) → a < 2 ^ 64 → k < 64 → bit (2 ^ 64 - 1 - a) k ≡ not (bit a k)
bit_of_not a k f h =
    ap (λ n. bit n k) (xor_full a f) ∙ ap (λ n. eqb (n % 2) 1) (xor_shr a (2 ^ 64 - 1) k) ∙ ap (λ n. eqb n 1) (xor_mod (a / 2 ^ k) ((2 ^ 64 - 1) / 2 ^ k) 1)
    ∙ digit_not (a / 2 ^ k % 2) ((2 ^ 64 - 1) / 2 ^ k % 2) (low (a / 2 ^ k)) (low ((2 ^ 64 - 1) / 2 ^ k)) (bit_full k h)

digit_same : (x y : ℕ) → x < 2 → y < 2 → (x == 1) ≡ (y == 1) → x ≡ y
digit_same zero zero p q e = refl
digit_same zero (suc zero) p q e = eqb-true 0 1 e
digit_same (suc zero) zero p q e = sym (eqb-true 0 1 (sym e))
digit_same (suc zero) (suc zero) p q e = refl
digit_same (suc zero) (suc (suc y)) p q e = absurd (omega arith)
digit_same zero (suc (suc y)) p q e = absurd (omega arith)
digit_same (suc (suc x)) y p q e = absurd (omega arith)

-- numbers of w bits that agree at each bit are equal
pub bits_same : (w a b : ℕ) → a < 2 ^ w → b < 2 ^ w → ((k : ℕ) → k < w → bit a k ≡ bit b k) → a ≡ b
bits_same zero a b p q e = omega arith
bits_same (suc w) a b p q e =
    let half : a / 2 ≡ b / 2 = bits_same w (a / 2) (b / 2) (shr_below a w 1 (rw add-one p)) (shr_below b w 1 (rw add-one q))
    (λ k h. ap (λ n. eqb (n % 2) 1) (shr-shr a 1 k) ∙ rw one-add (e (suc k) (omega arith)) ∙ sym (ap (λ n. eqb (n % 2) 1) (shr-shr b 1 k))) in
    let first : a % 2 ≡ b % 2 = digit_same (a % 2) (b % 2) (low a) (low b)
    (ap (λ n. eqb (n % 2) 1) (sym (div-one a)) ∙ e 0 (omega arith) ∙ ap (λ n. eqb (n % 2) 1) (div-one b)) in
    omega (arith, div-add-mod' a 2, div-add-mod' b 2)
