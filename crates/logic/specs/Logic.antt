-- Metric temporal logic over endless streams of points, with the published point-based semantics.
-- Truth is classical: `Or` holds when not both fail, `Exists` when not all fail.
use Rattle.std.specs.Prelude.{◌≡◌, ℕ, zero, suc, ◌-◌, ◌<◌, ◌≤◌, Bool, true, List, [], ◌∷◌, length, Some, None, Option}
use Rattle.rule.specs.declared.interval.Interval.{Interval}
use Rattle.rule.specs.Intervals.{at_shift}

-- formulas over numbered letters
pub data Formula : Type 0 where
  truth : Formula
  letter : ℕ → Formula
  negation : Formula → Formula
  conjunction : Formula → Formula → Formula
  disjunction : Formula → Formula → Formula
  previous : Interval → Formula → Formula
  since : Interval → Formula → Formula → Formula
  next : Interval → Formula → Formula
  until : Interval → Formula → Formula → Formula

-- an endless stream of points, whose stamps never fall; letters have values in a kind of truth
pub record Stream (T : Type 0) : Type 0 where
  pub stamp : ℕ → ℕ
  pub letters : ℕ → ℕ → T
  pub rises : (i : ℕ) → stamp i ≤ stamp (suc i)

-- a number is not past an upper end, if there is one
abbrev pub Under : Option ℕ → ℕ → Type 0
Under None d = Unit {0}
Under (Some h) d = d ≤ h

-- a number of minutes lies in the interval
abbrev pub In : Interval → ℕ → Type 0
In I d = (I.low ≤ d) × Under I.high d

abbrev pub Not : Type 0 → Type 0
Not A = A → ⊥

abbrev pub Or : Type 0 → Type 0 → Type 0
Or A B = Not (Not A × Not B)

abbrev pub Exists : (ℕ → Type 0) → Type 0
Exists P = Not ((j : ℕ) → Not (P j))

-- the four operators over properties of points
module _ (stamp : ℕ → ℕ) where
  abbrev pub Previous : Interval → (ℕ → Type 0) → ℕ → Type 0
  Previous I P zero = ⊥
  Previous I P (suc i) = In I (stamp (suc i) - stamp i) × P i

  abbrev pub Since : Interval → (ℕ → Type 0) → (ℕ → Type 0) → ℕ → Type 0
  Since I P Q i = Exists (λ j. (j ≤ i) × In I (stamp i - stamp j) × Q j × ((n : ℕ) → j < n → n ≤ i → P n))

  abbrev pub Next : Interval → (ℕ → Type 0) → ℕ → Type 0
  Next I P i = In I (stamp (suc i) - stamp i) × P (suc i)

  abbrev pub Until : Interval → (ℕ → Type 0) → (ℕ → Type 0) → ℕ → Type 0
  Until I P Q i = Exists (λ j. (i ≤ j) × In I (stamp j - stamp i) × Q j × ((n : ℕ) → i ≤ n → n < j → P n))

-- the formula is true of the stream at point i
abbrev pub Sat : Stream Bool → Formula → ℕ → Type 0
Sat ρ truth i = Unit {0}
Sat ρ (letter l) i = ρ.letters i l ≡ true
Sat ρ (negation f) i = Not (Sat ρ f i)
Sat ρ (conjunction f g) i = Sat ρ f i × Sat ρ g i
Sat ρ (disjunction f g) i = Or (Sat ρ f i) (Sat ρ g i)
Sat ρ (previous I f) i = Previous ρ.stamp I (Sat ρ f) i
Sat ρ (since I f g) i = Since ρ.stamp I (Sat ρ f) (Sat ρ g) i
Sat ρ (next I f) i = Next ρ.stamp I (Sat ρ f) i
Sat ρ (until I f g) i = Until ρ.stamp I (Sat ρ f) (Sat ρ g) i

-- a formula at a shift: its own interval is seen so much later
abbrev pub formula_at : ℕ → Formula → Formula
formula_at s truth = truth
formula_at s (letter l) = letter l
formula_at s (negation f) = negation f
formula_at s (conjunction f g) = conjunction f g
formula_at s (disjunction f g) = disjunction f g
formula_at s (previous I f) = previous I f
formula_at s (since I f g) = since (at_shift s I) f g
formula_at s (next I f) = next I f
formula_at s (until I f g) = until (at_shift s I) f g

-- no future operator
abbrev pub Past : Formula → Type 0
Past truth = Unit {0}
Past (letter l) = Unit {0}
Past (negation f) = Past f
Past (conjunction f g) = Past f × Past g
Past (disjunction f g) = Past f × Past g
Past (previous I f) = Past f
Past (since I f g) = Past f × Past g
Past (next I f) = ⊥
Past (until I f g) = ⊥

-- the Bool says whether the statement is true
abbrev pub Tells : Type 0 → Bool → Type 0
Tells A b = (A → b ≡ true) × (b ≡ true → A)

-- an accepted point
pub record Accepted (T : Type 0) : Type 0 where
  pub stamp : ℕ
  pub letters : ℕ → T

-- the stream begins with the accepted points, which stand newest first
abbrev pub Begins : {T : Type 0} → Stream T → List (Accepted T) → Type 0
Begins ρ [] = Unit {0}
Begins ρ (p ∷ ps) = (ρ.stamp (length ps) ≡ p.stamp) × ((l : ℕ) → ρ.letters (length ps) l ≡ p.letters l) × Begins ρ ps
