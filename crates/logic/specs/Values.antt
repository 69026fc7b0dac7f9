-- The value of a formula without future operators, in any kind of truth, and how it goes from point to point.
use Rattle.std.specs.Prelude.{◌≡◌, ℕ, zero, suc, ◌-◌, ◌≤◌, Bool, cond, Some, None, Option, nat_le}
use Rattle.truth.specs.Laws.{Ops}
use Rattle.truth.specs.Plain.{plainly}
use Rattle.rule.specs.declared.interval.Interval.{Interval}
use Rattle.rule.specs.Intervals.{within, last_shift, moved, at_shift, begun}
use Rattle.logic.specs.Logic.{Formula, Stream, Sat, Past, Tells}
use Rattle.logic.specs.Logic.{truth, letter, negation, conjunction, disjunction, previous, since, next, until}

-- what f says of a shift; d where it is expired
abbrev pub at_shift_or : {T : Type 0} → (ℕ → T) → T → Option ℕ → T
at_shift_or f d None = d
at_shift_or f d (Some s) = f s

module _ {T : Type 0} (k : Ops T) where
  -- f 0 either .. either f i
  abbrev pub either_up_to : ℕ → (ℕ → T) → T
  either_up_to zero f = f 0
  either_up_to (suc i) f = k.either (either_up_to i f) (f (suc i))

  -- f (j + 1) both .. both f i; always where j is not below i
  abbrev pub both_after : ℕ → ℕ → (ℕ → T) → T
  both_after j zero f = k.always
  both_after j (suc i) f = cond (nat_le j i) (k.both (both_after j i f) (f (suc i))) k.always

  -- one step of a since or an until at shift s: right where the interval has begun, or left both with what comes from the neighbour point
  abbrev pub stepped : Interval → ℕ → T → T → T → T
  stepped I s left right from = k.either (cond (begun I s) right k.never) (k.both left from)

  -- the value of a formula at point i in the published form: a since is the either over all points that can be its witness
  -- next and until look ahead of the point: they have no value here
  abbrev pub value : Stream T → Formula → ℕ → T
  value ρ truth i = k.always
  value ρ (letter l) i = ρ.letters i l
  value ρ (negation f) i = k.not (value ρ f i)
  value ρ (conjunction f g) i = k.both (value ρ f i) (value ρ g i)
  value ρ (disjunction f g) i = k.either (value ρ f i) (value ρ g i)
  value ρ (previous I f) zero = k.never
  value ρ (previous I f) (suc i) = cond (within I (ρ.stamp (suc i) - ρ.stamp i)) (value ρ f i) k.never
  value ρ (since I f g) i =
      either_up_to i (λ j. cond (within I (ρ.stamp i - ρ.stamp j)) (k.both (value ρ g j) (both_after j i (value ρ f))) k.never)
  value ρ (next I f) i = k.never
  value ρ (until I f g) i = k.never

-- the plain value says whether the formula is true
abbrev pub PlainTells : Type 0
PlainTells = (ρ : Stream Bool) (f : Formula) → Past f → (i : ℕ) → Tells (Sat ρ f i) (value plainly ρ f i)

-- a since at a shift at the first point
abbrev pub SinceStarts : {T : Type 0} → Ops T → Type 0
SinceStarts {T} k = (ρ : Stream T) (I : Interval) (f g : Formula) (s : ℕ) → s ≤ last_shift I →
    value k ρ (since (at_shift s I) f g) 0 ≡ stepped k I s (value k ρ f 0) (value k ρ g 0) k.never

-- a since at a shift at a later point: from its value at the moved shift one point before
abbrev pub SinceSteps : {T : Type 0} → Ops T → Type 0
SinceSteps {T} k = (ρ : Stream T) (I : Interval) (f g : Formula) (s : ℕ) → s ≤ last_shift I → (i : ℕ) →
    value k ρ (since (at_shift s I) f g) (suc i) ≡
    stepped k I s (value k ρ f (suc i)) (value k ρ g (suc i))
    (at_shift_or (λ m. value k ρ (since (at_shift m I) f g) i) k.never (moved I s (ρ.stamp (suc i) - ρ.stamp i)))
