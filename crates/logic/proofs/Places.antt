-- Numbers that belong to places: a place's numbers begin where those of the places before it end.
use Rattle.std.proofs.Common.{◌≡◌, ℕ, zero, suc, ◌+◌, ◌<◌, ◌≤◌, ltb, List, [], ◌∷◌, length, take, sum_by, refl, ap, ◌∙◌, inl, inr, arith}
use Rattle.std.proofs.lemmas.List.{take_all}
use Rattle.std.proofs.lemmas.List.Sums.{sum_by-cons}
use Rattle.std.proofs.lemmas.Bool.{cases_eq, lt-ltb, le-ltb, cond-true, cond-false}
use Rattle.rule.specs.declared.record.Record.{Record}
use Rattle.rule.specs.declared.record.Record.TheVariants.{True}
use Rattle.rule.specs.Components.{own_waits, first_wait, waits}
use Rattle.logic.specs.Tables.{row}
use Rattle.logic.specs.Waits.{place, owner}

-- one more record
pub numbers_more : (f : Record → ℕ) → f True ≡ 0 → (rs : List Record) (n : ℕ) → sum_by f (take (suc n) rs) ≡ sum_by f (take n rs) + f (row rs n)
numbers_more f z [] zero = omega arith
numbers_more f z [] (suc n) = omega arith
numbers_more f z (r ∷ rs) zero = omega arith
numbers_more f z (r ∷ rs) (suc n) =
    let more = numbers_more f z rs n in
    let a = sum_by-cons f r (take (suc n) rs) in let b = sum_by-cons f r (take n rs) in omega arith

module _ (c : ℕ → ℕ) (width : ℕ → ℕ) (more : (n : ℕ) → c (suc n) ≡ c n + width n) where
  pub counts_rise : (j n : ℕ) → j < n → c j + width j ≤ c n
  counts_rise j zero lt = absurd (let x : ⊥ = omega arith in x)
  counts_rise j (suc n) lt = elim (cases_eq j n) [
    | inl e ↦ let m = more n in rw e (omega arith)
    | inr ne ↦ let m = more n in let r = counts_rise j n (omega arith) in omega arith
  ]

  -- a number of place j belongs to it
  pub place_at : (n j s : ℕ) → j < n → s < width j → place c n (c j + s) ≡ j
  unfolding place
  place_at zero j s lt h = absurd (let x : ⊥ = omega arith in x)
  place_at (suc n) j s lt h = elim (cases_eq j n) [
    | inl e ↦ rw e (cond-false (ltb (c n + s) (c n)) (place c n (c n + s)) n (le-ltb (c n + s) (c n) (omega arith)))
    | inr ne ↦
        let r = counts_rise j n (omega arith) in
        cond-true (ltb (c j + s) (c n)) (place c n (c j + s)) n (lt-ltb (c j + s) (c n) (omega arith)) ∙ place_at n j s (omega arith) h
  ]

-- the waits of a table
pub wait_more : (rs : List Record) (n : ℕ) → first_wait rs (suc n) ≡ first_wait rs n + own_waits (row rs n)
wait_more rs n = numbers_more own_waits refl rs n

pub waits_rise : (rs : List Record) (j n : ℕ) → j < n → first_wait rs (suc j) ≤ first_wait rs n
waits_rise rs j n lt =
    let a = counts_rise (first_wait rs) (λ k. own_waits (row rs k)) (wait_more rs) j n lt in let b = wait_more rs j in omega arith

pub waits_all : (rs : List Record) → first_wait rs (length rs) ≡ waits rs
waits_all rs = ap (sum_by own_waits) (take_all (length rs) rs (omega arith))

pub owner_at : (rs : List Record) (j s : ℕ) → j < length rs → s < own_waits (row rs j) → owner rs (first_wait rs j + s) ≡ j
owner_at rs j s lt h = place_at (first_wait rs) (λ k. own_waits (row rs k)) (wait_more rs) (length rs) j s lt h
