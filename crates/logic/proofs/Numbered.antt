-- Each setting of m waits is that of a number below 2 ^ m.
use Rattle.std.proofs.Common.{◌≡◌, ℕ, zero, suc, ◌+◌, ◌*◌, ◌/◌, ◌%◌, ◌^◌, ◌<◌, Bool, true, false, cond, eqb, sym, ap, ◌∙◌, one-add, arith}
use native.Mathlib.Nat.{two-pow-succ}
use Rattle.std.proofs.lemmas.Nat.{shr-shr}
use Rattle.truth.specs.Words.{bit}
use Rattle.logic.specs.Numbers.{KnownByNumbers}

number : ℕ → (ℕ → Bool) → ℕ
number zero v = 0
number (suc m) v = 2 * number m (λ w. v (suc w)) + cond (v 0) 1 0

number_lt : (m : ℕ) (v : ℕ → Bool) → number m v < 2 ^ m
unfolding number
number_lt zero v = omega arith
number_lt (suc m) v =
    let ih = number_lt m (λ w. v (suc w)) in let e = two-pow-succ m in
    elim (v 0) as (λ b. 2 * number m (λ w. v (suc w)) + cond b 1 0 < 2 ^ suc m) [ true ↦ omega arith | false ↦ omega arith ]

low : (n : ℕ) (b : Bool) → bit (2 * n + cond b 1 0) 0 ≡ b
low n true = let e : (2 * n + 1) / 1 % 2 ≡ 1 = omega arith in rw e
low n false = let e : (2 * n + 0) / 1 % 2 ≡ 0 = omega arith in rw e

half : (n : ℕ) (b : Bool) → (2 * n + cond b 1 0) / 2 ≡ n
half n true = omega arith
half n false = omega arith

rest : (n k : ℕ) → bit n (suc k) ≡ bit (n / 2) k
rest n k = ap (λ x. eqb (x % 2) 1) (sym (rw one-add at (shr-shr n 1 k)))

number_bits : (m : ℕ) (v : ℕ → Bool) (w : ℕ) → w < m → bit (number m v) w ≡ v w
unfolding number
number_bits zero v w lt = absurd (let c : ⊥ = omega arith in c)
number_bits (suc m) v zero lt = low (number m (λ w. v (suc w))) (v 0)
number_bits (suc m) v (suc w) lt =
    rest (2 * number m (λ w. v (suc w)) + cond (v 0) 1 0) w
    ∙ ap (λ n. bit n w) (half (number m (λ w. v (suc w))) (v 0)) ∙ number_bits m (λ w. v (suc w)) w (omega arith)

pub known_by_numbers : KnownByNumbers
known_by_numbers m c d lc ld h v =
    let n = number m v in
    sym (lc (bit n) v (number_bits m v)) ∙ h n (number_lt m v) ∙ ld (bit n) v (number_bits m v)
