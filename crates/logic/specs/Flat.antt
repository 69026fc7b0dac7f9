-- Flat rules, and how many points they can hold.
use Rattle.std.specs.Prelude.{◌≡◌, ℕ, suc, ◌-◌, ◌*◌, ◌^◌, ◌<◌, ◌≤◌, max, Bool, true, false, List, [], ◌∷◌, length, count_by}
use Rattle.std.specs.List.{AllByRecursion}
use Rattle.rule.specs.declared.record.Record.{Record}
use Rattle.rule.specs.declared.record.Record.TheVariants as kind
use Rattle.rule.specs.Intervals.{last_shift}
use Rattle.rule.specs.Components.{looks_ahead}
use Rattle.logic.specs.Logic.{Formula, Not, Past, Accepted}
use Rattle.logic.specs.Logic.{truth, letter, negation, conjunction, disjunction, previous, since, next, until}
use Rattle.logic.specs.Tables.{rule}
use Rattle.logic.specs.Waits.{open_at}
use Rattle.logic.specs.Verdicts.{Rising}

-- no future operator stands beneath a previous, since, next or until
abbrev pub Flat : Formula → Type 0
Flat truth = Unit {0}
Flat (letter l) = Unit {0}
Flat (negation f) = Flat f
Flat (conjunction f g) = Flat f × Flat g
Flat (disjunction f g) = Flat f × Flat g
Flat (previous I f) = Past f
Flat (since I f g) = Past f × Past g
Flat (next I f) = Past f
Flat (until I f g) = Past f × Past g

-- how many future operators a table has
abbrev pub futures : List Record → ℕ
futures rs = count_by looks_ahead rs

-- the last shift of an until, and 0 of any other record
abbrev pub last_wait : Record → ℕ
last_wait kind.True = 0
last_wait (kind.Letter l) = 0
last_wait (kind.Not a) = 0
last_wait (kind.And a b) = 0
last_wait (kind.Or a b) = 0
last_wait (kind.Previous i a) = 0
last_wait (kind.Since i a b) = 0
last_wait (kind.Next i a) = 0
last_wait (kind.Until i a b) = last_shift i

-- the largest of these
abbrev pub longest : List Record → ℕ
longest [] = 0
longest (r ∷ rs) = max (last_wait r) (longest rs)

-- the condition of point i is open: neither true at every setting nor false at every one
pub record Undecided (rs : List Record) (ps : List (Accepted Bool)) (i : ℕ) : Type 0 where
  pub accepted : i < length ps
  pub not_true : Not ((v : ℕ → Bool) → open_at rs ps i v ≡ true)
  pub not_false : Not ((v : ℕ → Bool) → open_at rs ps i v ≡ false)

-- the conditions of two points are different
abbrev pub Different : List Record → List (Accepted Bool) → ℕ → ℕ → Type 0
Different rs ps i j = Not ((v : ℕ → Bool) → open_at rs ps i v ≡ open_at rs ps j v)

-- any two of a list, the earlier and the later, are so related
abbrev pub Pairwise : {X : Type 0} → (X → X → Type 0) → List X → Type 0
Pairwise R [] = Unit {0}
Pairwise R (x ∷ xs) = AllByRecursion (R x) xs × Pairwise R xs

-- points of a flat rule whose conditions are open and pairwise different are few
abbrev pub FewHeld : Type 0
FewHeld = (rs : List Record) (p : Accepted Bool) (ps : List (Accepted Bool)) (is : List ℕ) → Rising (p ∷ ps) → Flat (rule rs) →
    AllByRecursion (Undecided rs (p ∷ ps)) is → Pairwise (Different rs (p ∷ ps)) is → length is ≤ (2 ^ (2 ^ futures rs) - 2) * suc (longest rs)
