-- Shifted intervals and formulas.
use Rattle.std.proofs.Common.{◌≡◌, ℕ, ◌+◌, ◌-◌, ◌≤◌, Bool, true, false, cond, ◌&&◌, leb, Some, None, Option, refl, ap, arith}
use Rattle.std.proofs.lemmas.Bool.{leb-true, leb-false}
use Rattle.std.proofs.lemmas.Bool.Decides.{nat_tests}
use Rattle.rule.specs.declared.interval.Interval.{Interval}
use Rattle.rule.specs.Intervals.{up_to, within, last_for, last_shift, moved_for, moved, high_at, at_shift, begun}
use Rattle.logic.specs.Logic.{Formula, formula_at}
use Rattle.logic.specs.Logic.{truth, letter, negation, conjunction, disjunction, previous, since, next, until}
use Rattle.logic.specs.Values.{at_shift_or}

-- shift 0
high_zero : (h : Option ℕ) → high_at h 0 ≡ h
high_zero None = refl
high_zero (Some h) = ap Some (omega arith)

pub at_zero : (I : Interval) → at_shift 0 I ≡ I
at_zero I = let e : I.low - 0 ≡ I.low = omega arith in λ i. record { low = e i; high = high_zero I.high i }

pub formula_at_zero : (f : Formula) → formula_at 0 f ≡ f
formula_at_zero truth = refl
formula_at_zero (letter l) = refl
formula_at_zero (negation f) = refl
formula_at_zero (conjunction f g) = refl
formula_at_zero (disjunction f g) = refl
formula_at_zero (previous I f) = refl
formula_at_zero (since I f g) = ap (λ J. since J f g) (at_zero I)
formula_at_zero (next I f) = refl
formula_at_zero (until I f g) = ap (λ J. until J f g) (at_zero I)

-- the interval at a shift has the difference 0 where it has begun
pub within_begun : (I : Interval) (s d : ℕ) → s ≤ last_shift I → d ≡ 0 → within (at_shift s I) d ≡ begun I s
within_begun I s d le z = go I.low I.high le
  where
    go : (l : ℕ) (h : Option ℕ) → s ≤ last_for h l → (leb (l - s) d && up_to (high_at h s) d) ≡ leb l s
    go l None le = grind (arith, nat_tests)
    go l (Some h) le = grind (arith, nat_tests)

-- a difference g + d from shift s is the difference d from where the gap g moves the shift
pub within_moved : (I : Interval) (s g d e : ℕ) → s ≤ last_shift I → e ≡ g + d →
    within (at_shift s I) e ≡ at_shift_or (λ m. within (at_shift m I) d) false (moved I s g)
within_moved I s g d e le q = go I.low I.high le
  where
    bounded : (l h : ℕ) → s ≤ h → (b : Bool) → leb (s + g) h ≡ b →
        (leb (l - s) e && leb e (h - s)) ≡ at_shift_or (λ m. leb (l - m) d && leb d (h - m)) false (cond b (Some (s + g)) None)
    bounded l h le true t = let u = leb-true (s + g) h t in grind (arith, nat_tests)
    bounded l h le false t = let u = leb-false (s + g) h t in grind (arith, nat_tests)

    go : (l : ℕ) (h : Option ℕ) → s ≤ last_for h l →
        (leb (l - s) e && up_to (high_at h s) e) ≡ at_shift_or (λ m. leb (l - m) d && up_to (high_at h m) d) false (moved_for h l (s + g))
    go l None le = grind (arith, nat_tests)
    go l (Some h) le = bounded l h le (leb (s + g) h) refl
