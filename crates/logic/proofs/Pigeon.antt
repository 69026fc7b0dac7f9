-- Different numbers below n are at most n.
use Rattle.std.proofs.Common.{◌≡◌, ℕ, zero, suc, ◌<◌, ◌≤◌, Bool, true, false, cond, eqb, List, [], ◌∷◌, map, length, refl, arith}
use Rattle.std.specs.List.{AllByRecursion}
use Rattle.std.proofs.lemmas.Bool.{eqb-true, eqb-false}
use Rattle.logic.specs.Flat.{Pairwise}

abbrev pub Differ : ℕ → ℕ → Type 0
Differ x y = x ≡ y → ⊥

-- without the first n
remove : ℕ → List ℕ → List ℕ
remove n [] = []
remove n (x ∷ xs) = cond (eqb x n) xs (x ∷ remove n xs)

remove_all : (P : ℕ → Type 0) (n : ℕ) (xs : List ℕ) → AllByRecursion P xs → AllByRecursion P (remove n xs)
unfolding remove
remove_all P n [] h = tt
remove_all P n (x ∷ xs) h =
    elim (eqb x n) as (λ b. AllByRecursion P (cond b xs (x ∷ remove n xs))) [ true ↦ h.1 | false ↦ (h.0, remove_all P n xs h.1) ]

remove_apart : (n : ℕ) (xs : List ℕ) → Pairwise Differ xs → Pairwise Differ (remove n xs)
unfolding remove
remove_apart n [] h = tt
remove_apart n (x ∷ xs) h =
    elim (eqb x n) as (λ b. Pairwise Differ (cond b xs (x ∷ remove n xs))) [ true ↦ h.1 | false ↦ (remove_all (Differ x) n xs h.0, remove_apart n xs h.1) ]

remove_length : (n : ℕ) (xs : List ℕ) → length xs ≤ suc (length (remove n xs))
unfolding remove
remove_length n [] = omega arith
remove_length n (x ∷ xs) =
    let ih = remove_length n xs in
    elim (eqb x n) as (λ b. suc (length xs) ≤ suc (length (cond b xs (x ∷ remove n xs)))) [ true ↦ omega arith | false ↦ omega arith ]

below : (n x : ℕ) (xs : List ℕ) → x ≡ n → AllByRecursion (λ y. y < suc n) xs → AllByRecursion (Differ x) xs → AllByRecursion (λ y. y < n) xs
below n x [] e h d = tt
below n x (y ∷ xs) e h d = (let a = h.0 in let b = d.0 in omega arith, below n x xs e h.1 d.1)

remove_below : (n : ℕ) (xs : List ℕ) → AllByRecursion (λ y. y < suc n) xs → Pairwise Differ xs → AllByRecursion (λ y. y < n) (remove n xs)
unfolding remove
remove_below n [] h d = tt
remove_below n (x ∷ xs) h d = go (eqb x n) refl (remove_below n xs h.1 d.1)
  where
    go : (b : Bool) → eqb x n ≡ b → AllByRecursion (λ y. y < n) (remove n xs) → AllByRecursion (λ y. y < n) (cond b xs (x ∷ remove n xs))
    go true e r = below n x xs (eqb-true x n e) h.1 d.0
    go false e r = (let a = h.0 in let ne : x ≡ n → ⊥ = eqb-false x n e in omega arith, r)

pub pigeons : (n : ℕ) (xs : List ℕ) → AllByRecursion (λ y. y < n) xs → Pairwise Differ xs → length xs ≤ n
pigeons zero [] h d = omega arith
pigeons zero (x ∷ xs) h d = absurd (let a = h.0 in let c : ⊥ = omega arith in c)
pigeons (suc n) xs h d =
    let r = pigeons n (remove n xs) (remove_below n xs h d) (remove_apart n xs d) in
    let l = remove_length n xs in omega arith

-- the same through numbers given to the items
pub map_pairwise : (P : ℕ → Type 0) (R S : ℕ → ℕ → Type 0) (c : ℕ → ℕ) (xs : List ℕ) → ((x y : ℕ) → P x → P y → R x y → S (c x) (c y)) →
    AllByRecursion P xs → Pairwise R xs → Pairwise S (map c xs)
map_pairwise P R S c [] f p h = tt
map_pairwise P R S c (x ∷ xs) f p h = (each x xs p.0 p.1 h.0, map_pairwise P R S c xs f p.1 h.1)
  where
    each : (x : ℕ) (ys : List ℕ) → P x → AllByRecursion P ys → AllByRecursion (R x) ys → AllByRecursion (S (c x)) (map c ys)
    each x [] px q r = tt
    each x (y ∷ ys) px q r = (f x y px q.0 r.0, each x ys px q.1 r.1)
