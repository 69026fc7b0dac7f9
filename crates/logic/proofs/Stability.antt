-- Truth is stable.
use Rattle.std.proofs.Common.{ℕ, zero, suc, ◌-◌}
use Rattle.rule.specs.declared.interval.Interval.{Interval}
use Rattle.rule.specs.Intervals.{within}
use Rattle.logic.specs.Logic.{In, Not, Previous}
use Rattle.logic.specs.Logic.{truth, letter, negation, conjunction, disjunction, previous, since, next, until}
use Rattle.logic.specs.Equations.{Stable}
use Rattle.logic.proofs.Telling.{tells_in, tells_stable}

in_stable : (I : Interval) (d : ℕ) → Not (Not (In I d)) → In I d
in_stable I d n = tells_stable (within I d) (tells_in I d) n

previous_stable : (stamp : ℕ → ℕ) (I : Interval) (P : ℕ → Type 0) → ((j : ℕ) → Not (Not (P j)) → P j) →
    (i : ℕ) → Not (Not (Previous stamp I P i)) → Previous stamp I P i
previous_stable stamp I P st zero n = n (λ x. x)
previous_stable stamp I P st (suc i) n = (in_stable I (stamp (suc i) - stamp i) (λ k. n (λ h. k h.0)), st i (λ k. n (λ h. k h.1)))

pub stable : Stable
stable ρ truth i n = tt
stable ρ (letter l) i n = tells_stable (ρ.letters i l) ((λ e. e), (λ e. e)) n
stable ρ (negation f) i n = λ a. n (λ b. b a)
stable ρ (conjunction f g) i n = (stable ρ f i (λ k. n (λ h. k h.0)), stable ρ g i (λ k. n (λ h. k h.1)))
stable ρ (disjunction f g) i n = λ a. n (λ b. b a)
stable ρ (previous I f) i n = previous_stable ρ.stamp I _ (λ j. stable ρ f j) i n
stable ρ (since I f g) i n = λ a. n (λ b. b a)
stable ρ (next I f) i n = (in_stable I (ρ.stamp (suc i) - ρ.stamp i) (λ k. n (λ h. k h.0)), stable ρ f (suc i) (λ k. n (λ h. k h.1)))
stable ρ (until I f g) i n = λ a. n (λ b. b a)
