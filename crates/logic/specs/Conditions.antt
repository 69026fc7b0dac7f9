-- Open conditions: what is known of a formula at a point, as a Boolean function of waits.
use Rattle.std.specs.Prelude.{ℕ, suc, ◌-◌, ◌≤◌, Bool, true, false, cond, not, ◌&&◌, ◌||◌, List, [], ◌∷◌, length, Some, None, Option, ◌==◌, nat_le}
use Rattle.truth.specs.Plain.{plainly}
use Rattle.rule.specs.declared.interval.Interval.{Interval}
use Rattle.rule.specs.Intervals.{last_shift, moved, at_shift}
use Rattle.logic.specs.Logic.{Formula, Stream, Sat, Tells, Accepted, Begins, formula_at}
use Rattle.logic.specs.Logic.{truth, letter, negation, conjunction, disjunction, previous, since, next, until}
use Rattle.logic.specs.Values.{stepped}
use Rattle.logic.specs.Steps.{fitting, across}

-- a setting of a formula's waits: a Bool for each next, and one for each shift of each until
abbrev pub Setting : Formula → Type 0
Setting truth = Unit {0}
Setting (letter l) = Unit {0}
Setting (negation f) = Setting f
Setting (conjunction f g) = Setting f × Setting g
Setting (disjunction f g) = Setting f × Setting g
Setting (previous I f) = Setting f
Setting (since I f g) = Setting f × Setting g
Setting (next I f) = Bool × Setting f
Setting (until I f g) = (ℕ → Bool) × Setting f × Setting g

-- values at the shifts of an interval alone
abbrev pub only : Interval → (ℕ → Bool) → ℕ → Bool
only I c s = nat_le s (last_shift I) && c s

-- a condition for each formula at each shift
abbrev pub Open : Type 0
Open = (f : Formula) → ℕ → Setting f → Bool

-- conditions at the newest point from the gap to the point before it, the conditions there and the letters, and the setting by which a
-- condition of an older point is carried to the newest
module _ (gap : Option ℕ) (before : Open) (letters : ℕ → Bool) where
  unfoldable mutual
    pub newest : (f : Formula) → ℕ → Setting f → Bool
    newest truth s v = true
    newest (letter l) s v = letters l
    newest (negation f) s v = not (newest f 0 v)
    newest (conjunction f g) s v = newest f 0 v.0 && newest g 0 v.1
    newest (disjunction f g) s v = newest f 0 v.0 || newest g 0 v.1
    newest (previous I f) s v = fitting plainly I gap (before f 0 (carry f v))
    newest (since I f g) s v =
        stepped plainly I s (newest f 0 v.0) (newest g 0 v.1) (across plainly I s gap (λ m. before (since I f g) m (carry f v.0, carry g v.1)))
    newest (next I f) s v = v.0
    newest (until I f g) s v = stepped plainly I s (newest f 0 v.1) (newest g 0 v.2) (v.0 s)

    pub carry : (f : Formula) → Setting f → Setting f
    carry truth v = tt
    carry (letter l) v = tt
    carry (negation f) v = carry f v
    carry (conjunction f g) v = (carry f v.0, carry g v.1)
    carry (disjunction f g) v = (carry f v.0, carry g v.1)
    carry (previous I f) v = carry f v
    carry (since I f g) v = (carry f v.0, carry g v.1)
    carry (next I f) v = (fitting plainly I gap (newest f 0 v.1), carry f v.1)
    carry (until I f g) v =
        (only I (λ s. across plainly I s gap (λ m. stepped plainly I m (newest f 0 v.1) (newest g 0 v.2) (v.0 m))), carry f v.1, carry g v.2)

-- the gap from the point before to p, if there is one
abbrev pub gap_to : {T : Type 0} → Accepted T → List (Accepted T) → Option ℕ
gap_to p [] = None
gap_to p (q ∷ ps) = Some (p.stamp - q.stamp)

-- the condition of a formula at a shift at the newest of the accepted points, which stand newest first
unfoldable pub condition : List (Accepted Bool) → Open
condition [] f s v = false
condition (p ∷ ps) f s v = newest (gap_to p ps) (condition ps) p.letters f s v

-- the setting by which a condition over the points ps is carried to p
unfoldable pub carried : Accepted Bool → List (Accepted Bool) → (f : Formula) → Setting f → Setting f
carried p ps f v = carry (gap_to p ps) (condition ps) p.letters f v

-- the condition of point i: that of the formula when the point is newest, carried at each point accepted after it
unfoldable pub of_point : List (Accepted Bool) → ℕ → (f : Formula) → Setting f → Bool
of_point [] i f v = false
of_point (p ∷ ps) i f v = cond (i == length ps) (condition (p ∷ ps) f 0 v) (of_point ps i f (carried p ps f v))

-- what holds of a shift; nothing of one that is expired
abbrev pub At : Option ℕ → (ℕ → Type 0) → Type 0
At None P = ⊥
At (Some m) P = P m

-- what the wait of an until at shift s means after point n: that it is true one point later, at the moved shift
abbrev pub Awaits : Stream Bool → ℕ → Interval → Formula → Formula → ℕ → Type 0
Awaits ρ n I f g s = At (moved I s (ρ.stamp (suc n) - ρ.stamp n)) (λ m. Sat ρ (until (at_shift m I) f g) (suc n))

-- the setting says of each wait whether it is true after point n
abbrev pub Matches : Stream Bool → ℕ → (f : Formula) → Setting f → Type 0
Matches ρ n truth v = Unit {0}
Matches ρ n (letter l) v = Unit {0}
Matches ρ n (negation f) v = Matches ρ n f v
Matches ρ n (conjunction f g) v = Matches ρ n f v.0 × Matches ρ n g v.1
Matches ρ n (disjunction f g) v = Matches ρ n f v.0 × Matches ρ n g v.1
Matches ρ n (previous I f) v = Matches ρ n f v
Matches ρ n (since I f g) v = Matches ρ n f v.0 × Matches ρ n g v.1
Matches ρ n (next I f) v = Tells (Sat ρ (next I f) n) v.0 × Matches ρ n f v.1
Matches ρ n (until I f g) v =
    ((s : ℕ) → s ≤ last_shift I → Tells (Awaits ρ n I f g s) (v.0 s)) × Matches ρ n f v.1 × Matches ρ n g v.2

-- the last of the shifts that a formula has
abbrev pub last_of : Formula → ℕ
last_of truth = 0
last_of (letter l) = 0
last_of (negation f) = 0
last_of (conjunction f g) = 0
last_of (disjunction f g) = 0
last_of (previous I f) = 0
last_of (since I f g) = last_shift I
last_of (next I f) = 0
last_of (until I f g) = last_shift I

-- the condition of a formula at a shift at the newest point says whether the formula is true there
abbrev pub SoundNewest : Type 0
SoundNewest = (ρ : Stream Bool) (p : Accepted Bool) (ps : List (Accepted Bool)) (f : Formula) (s : ℕ) (v : Setting f) →
    Begins ρ (p ∷ ps) → Matches ρ (length ps) f v → s ≤ last_of f → Tells (Sat ρ (formula_at s f) (length ps)) (condition (p ∷ ps) f s v)

-- the condition of point i says whether the formula is true at i
abbrev pub Sound : Type 0
Sound = (ρ : Stream Bool) (p : Accepted Bool) (ps : List (Accepted Bool)) (i : ℕ) (f : Formula) (v : Setting f) →
    Begins ρ (p ∷ ps) → Matches ρ (length ps) f v → i ≤ length ps → Tells (Sat ρ f i) (of_point (p ∷ ps) i f v)
