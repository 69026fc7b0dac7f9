-- Settings that differ in one wait: where their values are in the words of a condition.
use Rattle.std.proofs.Common.{◌≡◌, ℕ, zero, suc, ◌+◌, ◌-◌, ◌*◌, ◌/◌, ◌%◌, ◌^◌, ◌<◌, ◌≤◌, sym, ap, ◌∙◌, ap₂, arith}
use native.Mathlib.Nat.{two-pow-succ}
use Rattle.std.proofs.lemmas.Nat.{mod-pow-add, pow-add}
use Rattle.truth.specs.Words.{bit}
use Rattle.truth.specs.Tables.{word, means}
use Rattle.truth.specs.declared.table.Condition.{Condition}
use Rattle.truth.proofs.Packing.{bit_shr}

-- settings from a multiple of a power on are in one word
inner_room : (w from : ℕ) → w < 6 → from % 2 ^ suc w ≡ 0 → from % 64 + 2 ^ suc w ≤ 64
inner_room zero from h z = omega arith
inner_room (suc zero) from h z = omega arith
inner_room (suc (suc zero)) from h z = omega arith
inner_room (suc (suc (suc zero))) from h z = omega arith
inner_room (suc (suc (suc (suc zero)))) from h z = omega arith
inner_room (suc (suc (suc (suc (suc zero))))) from h z = omega arith
inner_room (suc (suc (suc (suc (suc (suc w)))))) from h z = absurd (omega arith)

-- how many words the settings of a wait from the sixth on take
pub outer_pow : (w : ℕ) → 6 ≤ w → 2 ^ w ≡ 64 * 2 ^ (w - 6)
outer_pow w h = let e : w ≡ 6 + (w - 6) = omega arith in ap (λ x. 2 ^ x) e ∙ pow-add 2 6 (w - 6)

outer_start : (w from : ℕ) → 6 ≤ w → from % 2 ^ w ≡ 0 → from % 64 ≡ 0
outer_start w from h z =
    let e : w ≡ w - 6 + 6 = omega arith in
    let split : from % 2 ^ (w - 6 + 6) ≡ (from / 64 % 2 ^ (w - 6)) * 64 + from % 64 = mod-pow-add from (w - 6) 6 in
    let same : from % 2 ^ w ≡ from % 2 ^ (w - 6 + 6) = ap (λ x. from % 2 ^ x) e in
    omega arith

module _ (c : Condition) (w from : ℕ) (z : from % 2 ^ suc w ≡ 0) where
  pub inner_same : w < 6 → let x = word c (from / 64) / 2 ^ (from % 64) in ((k : ℕ) → k < 2 ^ w → bit x k ≡ bit x (2 ^ w + k))
      → (k : ℕ) → k < 2 ^ w → means c (from + k) ≡ means c (from + 2 ^ w + k)
  inner_same h e k l =
      let room = inner_room w from h z in
      let double = two-pow-succ w in
      let x = word c (from / 64) in
      let at : (j : ℕ) → from % 64 + j < 64 → means c (from + j) ≡ bit (x / 2 ^ (from % 64)) j = (λ j m.
      let q : (from + j) / 64 ≡ from / 64 = omega arith in
      let r : (from + j) % 64 ≡ from % 64 + j = omega arith in
      ap₂ (λ i b. bit (word c i) b) q r ∙ sym (bit_shr x (from % 64) j)) in
      let s : from + (2 ^ w + k) ≡ from + 2 ^ w + k = omega arith in
      at k (omega arith) ∙ e k l ∙ sym (at (2 ^ w + k) (omega arith)) ∙ ap (means c) s

  pub outer_same : 6 ≤ w → ((k : ℕ) → k < 2 ^ (w - 6) → word c (from / 64 + k) ≡ word c (from / 64 + 2 ^ (w - 6) + k))
      → (k : ℕ) → k < 2 ^ w → means c (from + k) ≡ means c (from + 2 ^ w + k)
  outer_same h e k l =
      let power = outer_pow w h in
      let start = outer_start (suc w) from (omega arith) z in
      let q : (from + k) / 64 ≡ from / 64 + k / 64 = omega arith in
      let r : (from + k) % 64 ≡ k % 64 = omega arith in
      let q' : (from + 2 ^ w + k) / 64 ≡ from / 64 + 2 ^ (w - 6) + k / 64 = omega arith in
      let r' : (from + 2 ^ w + k) % 64 ≡ k % 64 = omega arith in
      ap₂ (λ i b. bit (word c i) b) q r ∙ ap (λ x. bit x (k % 64)) (e (k / 64) (omega arith)) ∙ sym (ap₂ (λ i b. bit (word c i) b) q' r')
