-- Words and tables packed from a function of the place.
use Rattle.std.proofs.Common.{◌≡◌, ℕ, zero, suc, ◌+◌, ◌-◌, ◌*◌, ◌/◌, ◌%◌, ◌^◌, ◌<◌, Bool, true, false, cond, eqb, sym, ap, ◌∙◌, inl, inr, arith}
use native.Mathlib.Nat.{div-add-mod, div-eq_of_lt}
use Rattle.std.proofs.lemmas.Nat.{field_of, mod-pow-add, shr_high, mod_low, shr-shr}
use Rattle.truth.specs.Words.{settings, bit}
use Rattle.truth.specs.Tables.{means}
use Rattle.truth.specs.Replacing.{packed, packed_lt, tabled}
use Rattle.truth.specs.declared.table.Condition.{Condition}
use Rattle.truth.specs.Digits.{order}
use Rattle.truth.specs.Meaning.{by_meaning, table_bit}

low_digit : (n i : ℕ) → n % 2 ^ (i + 1) % 2 ≡ n % 2
low_digit n i = let e : n % 2 ^ (i + 1) ≡ (n / 2 % 2 ^ i) * 2 + n % 2 = mod-pow-add n i 1 in omega arith

-- the bits of what is left past h bits
pub bit_shr : (n j k : ℕ) → bit (n / 2 ^ j) k ≡ bit n (j + k)
bit_shr n j k = ap (λ x. eqb (x % 2) 1) (shr-shr n j k)

-- the lower bits of a number
pub bit_mod : (n h k : ℕ) → k < h → bit (n % 2 ^ h) k ≡ bit n k
bit_mod n h k l =
    let e : h ≡ (h - k - 1 + 1) + k = omega arith in
    ap (λ x. bit (n % 2 ^ x) k) e
    ∙ ap (λ x. eqb (x % 2) 1) (field_of n (h - k - 1 + 1) k)
    ∙ ap (λ x. eqb x 1) (low_digit (n / 2 ^ k) (h - k - 1))

pack_top : (a m : ℕ) (b : Bool) → a < 2 ^ m → bit (a + cond b (2 ^ m) 0) m ≡ b
pack_top a m true l = let e : a + 2 ^ m ≡ 1 * 2 ^ m + a = omega arith in ap (λ x. eqb (x % 2) 1) (ap (λ x. x / 2 ^ m) e ∙ shr_high 1 m a l)
pack_top a m false l = let e : a + 0 ≡ a = omega arith in ap (λ x. eqb (x % 2) 1) (ap (λ x. x / 2 ^ m) e ∙ div-eq_of_lt l)

pack_low : (a m k : ℕ) (b : Bool) → a < 2 ^ m → k < m → bit (a + cond b (2 ^ m) 0) k ≡ bit a k
pack_low a m k true l h =
    let e : a + 2 ^ m ≡ 1 * 2 ^ m + a = omega arith in
    ap (λ x. bit x k) e ∙ sym (bit_mod (1 * 2 ^ m + a) m k h) ∙ ap (λ x. bit x k) (mod_low 1 m a l)
pack_low a m k false l h = let e : a + 0 ≡ a = omega arith in ap (λ x. bit x k) e

pub bit_packed : (f : ℕ → Bool) (m k : ℕ) → k < m → bit (packed f m) k ≡ f k
unfolding packed
bit_packed f zero k h = absurd (omega arith)
bit_packed f (suc m) k h =
    elim (order k m h) [
      | inl l ↦ pack_low (packed f m) m k (f m) (packed_lt f m) l ∙ bit_packed f m k l
      | inr e ↦ ap (bit (packed f m + cond (f m) (2 ^ m) 0)) e ∙ pack_top (packed f m) m (f m) (packed_lt f m) ∙ ap f (sym e)
    ]

pub means_tabled : (f : ℕ → Bool) (n : ℕ) → n < settings → means (tabled f) n ≡ f n
means_tabled f n h =
    table_bit (λ i. packed (λ j. f (64 * i + j)) 64) n h
    ∙ bit_packed (λ j. f (64 * (n / 64) + j)) 64 (n % 64) (omega arith)
    ∙ ap f (div-add-mod n 64)

-- a condition is the table of its values
pub is_tabled : (c : Condition) (f : ℕ → Bool) → ((n : ℕ) → n < settings → means c n ≡ f n) → c ≡ tabled f
is_tabled c f e = by_meaning c (tabled f) (λ n h. e n h ∙ sym (means_tabled f n h))

-- one more bit
pub packed_step : (f : ℕ → Bool) (m : ℕ) → 0 < m → packed f m ≡ packed f (m - 1) + cond (f (m - 1)) (2 ^ (m - 1)) 0
unfolding packed
packed_step f m h = let e : m ≡ suc (m - 1) = omega arith in ap (packed f) e
