-- Truth is stable, and since and until at a shift obey their one-step equations.
use Rattle.std.specs.Prelude.{ℕ, suc, ◌-◌, ◌≤◌, Bool, ◌↔◌}
use Rattle.rule.specs.declared.interval.Interval.{Interval}
use Rattle.rule.specs.Intervals.{last_shift, moved, at_shift}
use Rattle.logic.specs.Logic.{Stream, Formula, since, until, Not, Or, Sat}
use Rattle.logic.specs.Conditions.{At}

-- what does not fail holds
abbrev pub Stable : Type 0
Stable = (ρ : Stream Bool) (f : Formula) (i : ℕ) → Not (Not (Sat ρ f i)) → Sat ρ f i

-- a since at the first point
abbrev pub SinceStart : Type 0
SinceStart = (ρ : Stream Bool) (I : Interval) (f g : Formula) (s : ℕ) → s ≤ last_shift I →
    Sat ρ (since (at_shift s I) f g) 0 ↔ Or ((I.low ≤ s) × Sat ρ g 0) ⊥

-- a since at a later point, by the point before it
abbrev pub SinceEquation : Type 0
SinceEquation = (ρ : Stream Bool) (I : Interval) (f g : Formula) (s : ℕ) → s ≤ last_shift I → (i : ℕ) →
    Sat ρ (since (at_shift s I) f g) (suc i) ↔
    Or ((I.low ≤ s) × Sat ρ g (suc i)) (Sat ρ f (suc i) × At (moved I s (ρ.stamp (suc i) - ρ.stamp i)) (λ m. Sat ρ (since (at_shift m I) f g) i))

-- an until at a point, by the point after it
abbrev pub UntilEquation : Type 0
UntilEquation = (ρ : Stream Bool) (I : Interval) (f g : Formula) (s : ℕ) → s ≤ last_shift I → (i : ℕ) →
    Sat ρ (until (at_shift s I) f g) i ↔
    Or ((I.low ≤ s) × Sat ρ g i) (Sat ρ f i × At (moved I s (ρ.stamp (suc i) - ρ.stamp i)) (λ m. Sat ρ (until (at_shift m I) f g) (suc i)))
