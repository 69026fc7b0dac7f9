-- Conditions of a table over numbered waits: waits are numbered by record, then by shift.
use Rattle.std.specs.Prelude.{◌≡◌, ℕ, zero, suc, ◌+◌, ◌-◌, ◌<◌, ◌≤◌, Bool, true, false, cond, List, ◌∷◌, length, ◌==◌, nat_lt}
use Rattle.truth.specs.Plain.{plainly}
use Rattle.rule.specs.declared.record.Record.{Record}
use Rattle.rule.specs.declared.record.Record.TheVariants.{True, Letter, Not, And, Or, Previous, Since, Next, Until}
use Rattle.rule.specs.Components.{shifts, own_waits, first_wait, waits}
use Rattle.logic.specs.Logic.{Formula, Stream, Sat, Tells, Accepted, Begins}
use Rattle.logic.specs.Logic.{truth, letter, negation, conjunction, disjunction, previous, since, next, until}
use Rattle.logic.specs.Tables.{row, built, formulas, formula, rule, Earlier}
use Rattle.logic.specs.Steps.{step, renewed}
use Rattle.logic.specs.Conditions.{Setting, only, gap_to, condition, of_point, Awaits}

-- what a setting of the numbered waits says of the waits of a record's formula, whose own are numbered from base
abbrev pub reading : (r : Record) → ℕ → (f : ℕ → Formula) → ((a : ℕ) → Setting (f a)) → (ℕ → Bool) → Setting (built f r)
reading True base f e v = tt
reading (Letter l) base f e v = tt
reading (Not a) base f e v = e a
reading (And a b) base f e v = (e a, e b)
reading (Or a b) base f e v = (e a, e b)
reading (Previous i a) base f e v = e a
reading (Since i a b) base f e v = (e a, e b)
reading (Next i a) base f e v = (v base, e a)
reading (Until i a b) base f e v = (only i (λ s. v (base + s)), e a, e b)

-- and of those of record j among the first n records
unfoldable pub settings : (rs : List Record) (n j : ℕ) → (ℕ → Bool) → Setting (formulas rs n j)
unfolding formulas
settings rs zero j v = tt
settings rs (suc n) j v = elim (j == n) as (λ b. Setting (cond b (built (formulas rs n) (row rs n)) (formulas rs n j))) [
  | true ↦ reading (row rs n) (first_wait rs n) (formulas rs n) (λ a. settings rs n a v) v
  | false ↦ settings rs n j v
]

-- and of those of record j
abbrev pub setting : (rs : List Record) (j : ℕ) → (ℕ → Bool) → Setting (formula rs j)
setting rs j v = settings rs (length rs) j v

-- the condition of record j at a shift at the newest point
abbrev pub component : List Record → List (Accepted Bool) → ℕ → ℕ → (ℕ → Bool) → Bool
component rs ps j s v = condition ps (formula rs j) s (setting rs j v)

-- the condition of point i
abbrev pub open_at : List Record → List (Accepted Bool) → ℕ → (ℕ → Bool) → Bool
open_at rs ps i v = of_point ps i (rule rs) (setting rs (length rs - 1) v)

-- the place below n that number w belongs to, where c says how many numbers the places before a place have
unfoldable pub place : (ℕ → ℕ) → ℕ → ℕ → ℕ
place c zero w = 0
place c (suc n) w = cond (nat_lt w (c n)) (place c n w) n

-- the record that has wait w
abbrev pub owner : List Record → ℕ → ℕ
owner rs w = place (first_wait rs) (length rs) w

-- the waits when p is accepted after ps, all replaced together
unfoldable pub replaced : List Record → Accepted Bool → List (Accepted Bool) → (ℕ → Bool) → ℕ → Bool
replaced rs p ps v w =
    renewed plainly (row rs (owner rs w)) (gap_to p ps) (λ a s. component rs (p ∷ ps) a s v) (owner rs w) (w - first_wait rs (owner rs w))

-- what a formula's own wait at a shift means after point n
abbrev pub Own : Stream Bool → ℕ → Formula → ℕ → Type 0
Own ρ n truth s = ⊥
Own ρ n (letter l) s = ⊥
Own ρ n (negation f) s = ⊥
Own ρ n (conjunction f g) s = ⊥
Own ρ n (disjunction f g) s = ⊥
Own ρ n (previous I f) s = ⊥
Own ρ n (since I f g) s = ⊥
Own ρ n (next I f) s = Sat ρ (next I f) n
Own ρ n (until I f g) s = Awaits ρ n I f g s

-- the setting says of each wait of each record whether it is true after point n
abbrev pub Fits : Stream Bool → ℕ → List Record → (ℕ → Bool) → Type 0
Fits ρ n rs v = (j : ℕ) → j < length rs → (s : ℕ) → s < own_waits (row rs j) → Tells (Own ρ n (formula rs j) s) (v (first_wait rs j + s))

-- the condition of point i says whether the rule is true there
abbrev pub SoundTable : Type 0
SoundTable = (rs : List Record) (ρ : Stream Bool) (p : Accepted Bool) (ps : List (Accepted Bool)) (i : ℕ) (v : ℕ → Bool) →
    Begins ρ (p ∷ ps) → Fits ρ (length ps) rs v → i ≤ length ps → Tells (Sat ρ (rule rs) i) (open_at rs (p ∷ ps) i v)

-- record by record, the conditions at the newest point come from those there of earlier records and from those one point before, carried
abbrev pub ComponentStep : Type 0
ComponentStep = (rs : List Record) → Earlier rs → (p : Accepted Bool) (ps : List (Accepted Bool)) (j s : ℕ) (v : ℕ → Bool) →
    j < length rs → s < shifts (row rs j) →
    component rs (p ∷ ps) j s v ≡
    step plainly (row rs j) (gap_to p ps) p.letters (λ a. component rs (p ∷ ps) a 0 v) (λ a m. component rs ps a m (replaced rs p ps v)) j s (λ m. v (first_wait rs j + m))

-- the newest point's condition is that of the last record at shift 0
abbrev pub NewestTable : Type 0
NewestTable = (rs : List Record) (p : Accepted Bool) (ps : List (Accepted Bool)) (v : ℕ → Bool) →
    open_at rs (p ∷ ps) (length ps) v ≡ component rs (p ∷ ps) (length rs - 1) 0 v

-- an older point's condition is carried by replacing the waits
abbrev pub CarriedTable : Type 0
CarriedTable = (rs : List Record) → Earlier rs → (p : Accepted Bool) (ps : List (Accepted Bool)) (i : ℕ) (v : ℕ → Bool) → i < length ps →
    open_at rs (p ∷ ps) i v ≡ open_at rs ps i (replaced rs p ps v)

-- the condition of record j looks at the waits of the records up to j alone
abbrev pub LocalComponent : Type 0
LocalComponent = (rs : List Record) (ps : List (Accepted Bool)) (j s : ℕ) (v u : ℕ → Bool) → j < length rs →
    ((w : ℕ) → w < first_wait rs (suc j) → v w ≡ u w) → component rs ps j s v ≡ component rs ps j s u

-- a point's condition looks at the table's waits alone
abbrev pub LocalTable : Type 0
LocalTable = (rs : List Record) (ps : List (Accepted Bool)) (i : ℕ) (v u : ℕ → Bool) → ((w : ℕ) → w < waits rs → v w ≡ u w) →
    open_at rs ps i v ≡ open_at rs ps i u
