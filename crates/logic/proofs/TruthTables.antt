-- Boolean functions of m variables, as numbers below 2 ^ (2 ^ m).
use Rattle.std.proofs.Common.{◌≡◌, ℕ, zero, suc, ◌+◌, ◌-◌, ◌*◌, ◌/◌, ◌%◌, ◌^◌, ◌<◌, Bool, true, false, cond, eqb, sym, refl, ap, ◌∙◌, arith, pow_pos, pow-add}
use native.Mathlib.Nat.{two-pow-succ}
use lib.Arith.{digits_lt, digits_div, digits_mod, mul_pred}
use Rattle.std.proofs.lemmas.Bool.{eqb-true, eqb-false}

-- a setting with variable m put to b
unfoldable pub put : (ℕ → Bool) → ℕ → Bool → ℕ → Bool
put u m b j = cond (eqb j m) b (u j)

-- the first m variables, and false beyond
unfoldable pub front : ℕ → (ℕ → Bool) → ℕ → Bool
front zero u = λ j. false
front (suc m) u = put (front m u) m (u m)

pub front_at : (m : ℕ) (u : ℕ → Bool) (j : ℕ) → j < m → front m u j ≡ u j
unfolding front put
front_at zero u j lt = absurd (let c : ⊥ = omega arith in c)
front_at (suc m) u j lt = go (eqb j m) refl (front_at m u j)
  where
    go : (b : Bool) → eqb j m ≡ b → (j < m → front m u j ≡ u j) → cond b (u m) (front m u j) ≡ u j
    go true e ih = ap u (sym (eqb-true j m e))
    go false e ih = let ne : j ≡ m → ⊥ = eqb-false j m e in ih (omega arith)

-- the number of a function
unfoldable pub table : ℕ → ((ℕ → Bool) → Bool) → ℕ
table zero B = cond (B (λ j. false)) 1 0
table (suc m) B = table m (λ u. B (put u m true)) * 2 ^ (2 ^ m) + table m (λ u. B (put u m false))

size : (m : ℕ) → 2 ^ (2 ^ suc m) ≡ 2 ^ (2 ^ m) * 2 ^ (2 ^ m)
size m = ap (λ k. 2 ^ k) (two-pow-succ m) ∙ pow-add 2 (2 ^ m) (2 ^ m)

pub table_lt : (m : ℕ) (B : (ℕ → Bool) → Bool) → table m B < 2 ^ (2 ^ m)
unfolding table
table_lt zero B = elim (B (λ j. false)) as (λ b. cond {A = ℕ} b 1 0 < 2) [ true ↦ omega arith | false ↦ omega arith ]
table_lt (suc m) B = rw (size m) (digits_lt (table_lt m (λ u. B (put u m true))) (table_lt m (λ u. B (put u m false))))

bit_same : (a b : Bool) → cond {A = ℕ} a 1 0 ≡ cond b 1 0 → a ≡ b
bit_same true true e = refl
bit_same true false e = absurd (let c : ⊥ = omega arith in c)
bit_same false true e = absurd (let c : ⊥ = omega arith in c)
bit_same false false e = refl

pub table_same : (m : ℕ) (B C : (ℕ → Bool) → Bool) → table m B ≡ table m C → (u : ℕ → Bool) → B (front m u) ≡ C (front m u)
unfolding table front
table_same zero B C e u = bit_same (B (λ j. false)) (C (λ j. false)) e
table_same (suc m) B C e u =
    let K = 2 ^ (2 ^ m) in
    let b1 = table m (λ u. B (put u m true)) in let b0 = table m (λ u. B (put u m false)) in
    let c1 = table m (λ u. C (put u m true)) in let c0 = table m (λ u. C (put u m false)) in
    let lb = table_lt m (λ u. B (put u m false)) in let lc = table_lt m (λ u. C (put u m false)) in
    let e1 : b1 ≡ c1 = sym (digits_div b1 lb) ∙ ap (λ n. n / K) e ∙ digits_div c1 lc in
    let e0 : b0 ≡ c0 = sym (digits_mod b1 lb) ∙ ap (λ n. n % K) e ∙ digits_mod c1 lc in
    elim (u m) as (λ x. B (put (front m u) m x) ≡ C (put (front m u) m x)) [
      | true ↦ table_same m (λ u. B (put u m true)) (λ u. C (put u m true)) e1 u
      | false ↦ table_same m (λ u. B (put u m false)) (λ u. C (put u m false)) e0 u
    ]

pub table_false : (m : ℕ) → table m (λ u. false) ≡ 0
unfolding table
table_false zero = refl
table_false (suc m) = let ih = table_false m in rw ih (omega arith)

pub table_true : (m : ℕ) → table m (λ u. true) ≡ 2 ^ (2 ^ m) - 1
unfolding table
table_true zero = refl
table_true (suc m) = let ih = table_true m in rw (ih, size m) (sym (mul_pred (pow_pos (2 ^ m)) (pow_pos (2 ^ m))))
