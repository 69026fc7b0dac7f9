-- How far ahead a formula looks: a point older than that has a constant condition.
use Rattle.std.specs.Prelude.{◌≡◌, ℕ, ◌+◌, ◌-◌, ◌<◌, ◌≤◌, max, Bool, cond, List, [], ◌∷◌, length, Some, None, Option, ◌==◌}
use Rattle.rule.specs.declared.record.Record.{Record}
use Rattle.logic.specs.Logic.{Formula, Accepted}
use Rattle.logic.specs.Logic.{truth, letter, negation, conjunction, disjunction, previous, since, next, until}
use Rattle.logic.specs.Tables.{rule}
use Rattle.logic.specs.Waits.{open_at}
use Rattle.logic.specs.Verdicts.{Rising}

-- the larger of two numbers of minutes, of which None is the endless one
abbrev pub larger : Option ℕ → Option ℕ → Option ℕ
larger None b = None
larger (Some a) None = None
larger (Some a) (Some b) = Some (max a b)

-- their sum
abbrev pub plus : Option ℕ → Option ℕ → Option ℕ
plus None b = None
plus (Some a) None = None
plus (Some a) (Some b) = Some (a + b)

-- how many minutes past a point its truth can depend on
abbrev pub reach : Formula → Option ℕ
reach truth = Some 0
reach (letter l) = Some 0
reach (negation f) = reach f
reach (conjunction f g) = larger (reach f) (reach g)
reach (disjunction f g) = larger (reach f) (reach g)
reach (previous I f) = reach f
reach (since I f g) = larger (reach f) (reach g)
reach (next I f) = plus I.high (reach f)
reach (until I f g) = plus I.high (larger (reach f) (reach g))

-- d is past a reach that ends
abbrev pub Over : Option ℕ → ℕ → Type 0
Over None d = ⊥
Over (Some r) d = r < d

-- the stamp of point i of the accepted points, which stand newest first
abbrev pub stamp_of : {T : Type 0} → List (Accepted T) → ℕ → ℕ
stamp_of [] i = 0
stamp_of (p ∷ ps) i = cond (i == length ps) p.stamp (stamp_of ps i)

-- the condition of a point that is older than the newest by more than the reach is the same at every setting
abbrev pub Settles : Type 0
Settles = (rs : List Record) (p : Accepted Bool) (ps : List (Accepted Bool)) (i : ℕ) → Rising (p ∷ ps) → i ≤ length ps →
    Over (reach (rule rs)) (p.stamp - stamp_of (p ∷ ps) i) → (v u : ℕ → Bool) → open_at rs (p ∷ ps) i v ≡ open_at rs (p ∷ ps) i u
