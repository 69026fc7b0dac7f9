-- Single waits: the bits of a setting within a word, and above it.
use Rattle.std.proofs.Common.{◌≡◌, ℕ, zero, suc, ◌+◌, ◌-◌, ◌*◌, ◌/◌, ◌%◌, ◌^◌, ◌<◌, ◌≤◌, Bool, true, false, cond, not, eqb, List, [], ◌∷◌, get_or, sym, refl, ap, ◌∙◌, arith, lit<, pow_mono}
use native.Mathlib.Nat.{div-eq_of_lt}
use Rattle.truth.specs.Words.{settings, wait_count, bit}
use Rattle.truth.specs.Replacing.{packed, packed_lt}
use Rattle.truth.specs.Digits.{each_below, below, bits_same}
use Rattle.truth.proofs.Packing.{bit_mod, bit_shr, bit_packed}

-- the settings within a word at which each of the lowest six waits is true
abbrev pub inner : List ℕ
inner =
    0xaaaa_aaaa_aaaa_aaaa ∷ 0xcccc_cccc_cccc_cccc ∷ 0xf0f0_f0f0_f0f0_f0f0
    ∷ 0xff00_ff00_ff00_ff00 ∷ 0xffff_0000_ffff_0000 ∷ 0xffff_ffff_0000_0000 ∷ []

agree : Bool → Bool → Bool
agree a b = cond a b (not b)

agreed : (a b : Bool) → agree a b ≡ true → a ≡ b
unfolding agree
agreed true true e = refl
agreed true false e = sym e
agreed false true e = e
agreed false false e = refl

-- each word of inner, by computing its bits
abbrev Inner : ℕ → Type 0
Inner w = (get_or inner w 0 < 2 ^ 64) × (each_below 64 (λ k. agree (bit (get_or inner w 0) k) (bit k w)) ≡ true)

inner_each : (w : ℕ) → w < 6 → Inner w
unfolding agree each_below
inner_each zero h = (lit< tt, refl)
inner_each (suc zero) h = (lit< tt, refl)
inner_each (suc (suc zero)) h = (lit< tt, refl)
inner_each (suc (suc (suc zero))) h = (lit< tt, refl)
inner_each (suc (suc (suc (suc zero)))) h = (lit< tt, refl)
inner_each (suc (suc (suc (suc (suc zero))))) h = (lit< tt, refl)
inner_each (suc (suc (suc (suc (suc (suc w)))))) h = absurd (omega arith)

-- a word is known by its bits
pub is_packed : (f : ℕ → Bool) (m a : ℕ) → a < 2 ^ m → ((k : ℕ) → k < m → bit a k ≡ f k) → a ≡ packed f m
is_packed f m a l e = bits_same m a (packed f m) l (packed_lt f m) (λ k h. e k h ∙ sym (bit_packed f m k h))

-- a wait below the sixth, at a setting in word i
pub inner_word : (w i : ℕ) → w < 6 → get_or inner w 0 ≡ packed (λ j. bit (64 * i + j) w) 64
inner_word w i h =
    let each = inner_each w h in
    is_packed (λ j. bit (64 * i + j) w) 64 (get_or inner w 0) each.0
    (λ k l. let e : (64 * i + k) % 64 ≡ k = omega arith in
    agreed (bit (get_or inner w 0) k) (bit k w) (below 64 (λ j. agree (bit (get_or inner w 0) j) (bit j w)) each.1 k l)
    ∙ ap (λ x. bit x w) (sym e) ∙ bit_mod (64 * i + k) 6 w h)

-- a wait from the sixth on, at a setting in word i
pub outer_bit : (w i k : ℕ) → 6 ≤ w → k < 64 → bit (64 * i + k) w ≡ bit i (w - 6)
outer_bit w i k h l =
    let e : w ≡ 6 + (w - 6) = omega arith in
    let q : (64 * i + k) / 64 ≡ i = omega arith in
    ap (bit (64 * i + k)) e ∙ sym (bit_shr (64 * i + k) 6 (w - 6)) ∙ ap (λ x. bit x (w - 6)) q

-- a wait past the last is clear in each setting
pub past_bit : (w n : ℕ) → wait_count ≤ w → n < settings → bit n w ≡ false
past_bit w n h l = ap (λ x. eqb (x % 2) 1) (div-eq_of_lt (omega (arith, pow_mono h)))
