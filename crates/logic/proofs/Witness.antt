-- The published form of a since goes from point to point by one step, by the laws of a kind of truth alone.
use Rattle.std.proofs.Common.{◌≡◌, ℕ, zero, suc, ◌+◌, ◌-◌, ◌≤◌, false, cond, leb, Some, None, Option, sym, refl, ap, ◌∙◌, subst, ap₂, arith}
use Rattle.std.proofs.lemmas.Bool.{le-leb, lt-leb, cond-true, cond-false}
use Rattle.truth.specs.Laws.{Ops, Laws}
use Rattle.rule.specs.declared.interval.Interval.{Interval}
use Rattle.rule.specs.Intervals.{within, last_shift, moved, at_shift, begun}
use Rattle.logic.specs.Logic.{Stream, Formula}
use Rattle.logic.specs.Values.{either_up_to, both_after, at_shift_or, stepped, value, SinceStarts, SinceSteps}
use Rattle.logic.proofs.Shifts.{within_begun, within_moved}
use Rattle.logic.proofs.Lattice.{both_never_right, both_always_right, both_swap, both_cond, either_up_to_same, both_either_up_to, either_up_to_never}

-- stamps never fall
pub stamps_rise : {T : Type 0} (ρ : Stream T) (i j : ℕ) → i ≤ j → ρ.stamp i ≤ ρ.stamp j
stamps_rise ρ i j le = let e : i + (j - i) ≡ j = omega arith in subst (λ n. ρ.stamp i ≤ ρ.stamp n) e (further (j - i))
  where
    further : (n : ℕ) → ρ.stamp i ≤ ρ.stamp (i + n)
    further zero = let e : i + 0 ≡ i = omega arith in rw e (omega arith)
    further (suc n) = let e : i + suc n ≡ suc (i + n) = omega arith in let a = further n in let b = ρ.rises (i + n) in rw e (omega arith)

module _ {T : Type 0} (k : Ops T) (laws : Laws k) where
  both_after_none : (j : ℕ) (f : ℕ → T) → both_after k j j f ≡ k.always
  both_after_none zero f = refl
  both_after_none (suc j) f = cond-false (leb (suc j) j) (k.both (both_after k (suc j) j f) (f (suc j))) k.always (lt-leb (suc j) j (omega arith))

  both_after_more : (j i : ℕ) (f : ℕ → T) → j ≤ i → both_after k j (suc i) f ≡ k.both (both_after k j i f) (f (suc i))
  both_after_more j i f le = cond-true (leb j i) (k.both (both_after k j i f) (f (suc i))) k.always (le-leb j i le)

  module _ (ρ : Stream T) (I : Interval) (f g : Formula) where
    F : ℕ → T
    F = value k ρ f

    G : ℕ → T
    G = value k ρ g

    -- what point j adds to the since at shift s at point i
    term : ℕ → ℕ → ℕ → T
    term s i j = cond (within (at_shift s I) (ρ.stamp i - ρ.stamp j)) (k.both (G j) (both_after k j i F)) k.never

    -- the newest point
    here : (s i : ℕ) → s ≤ last_shift I → term s i i ≡ cond (begun I s) (G i) k.never
    unfolding term
    here s i le =
        ap₂ (λ b x. cond b x k.never) (within_begun I s (ρ.stamp i - ρ.stamp i) le (omega arith))
        (ap (k.both (G i)) (both_after_none i F) ∙ both_always_right k laws (G i))

    -- the older points, when one more is accepted
    older : (s i j : ℕ) → s ≤ last_shift I → j ≤ i →
        term s (suc i) j ≡ k.both (F (suc i)) (cond (at_shift_or (λ m. within (at_shift m I) (ρ.stamp i - ρ.stamp j)) false (moved I s (ρ.stamp (suc i) - ρ.stamp i))) (k.both (G j) (both_after k j i F)) k.never)
    unfolding term
    older s i j le before =
        let lower = stamps_rise ρ j i before in let upper = ρ.rises i in
        let fits = within_moved I s (ρ.stamp (suc i) - ρ.stamp i) (ρ.stamp i - ρ.stamp j) (ρ.stamp (suc i) - ρ.stamp j) le (omega arith) in
        let last = k.both (G j) (both_after k j i F) in
        let grown : k.both (G j) (both_after k j (suc i) F) ≡ k.both (F (suc i)) last =
        ap (k.both (G j)) (both_after_more j i F before ∙ laws.both_comm (both_after k j i F) (F (suc i))) ∙ both_swap k laws (G j) (F (suc i)) (both_after k j i F) in
        ap₂ (λ b x. cond b x k.never) fits grown ∙ sym (both_cond k laws _ (F (suc i)) last)

    -- together they are the since at the moved shift
    moved_terms : (i : ℕ) (z : Option ℕ) →
        either_up_to k i (λ j. cond (at_shift_or (λ m. within (at_shift m I) (ρ.stamp i - ρ.stamp j)) false z) (k.both (G j) (both_after k j i F)) k.never) ≡
        at_shift_or (λ m. either_up_to k i (term m i)) k.never z
    unfolding term
    moved_terms i None = either_up_to_never k laws i
    moved_terms i (Some m) = refl

    zeroth : (s : ℕ) → s ≤ last_shift I → either_up_to k 0 (term s 0) ≡ stepped k I s (F 0) (G 0) k.never
    zeroth s le =
        here s 0 le ∙ sym (laws.either_comm _ (k.both (F 0) k.never) ∙ ap (λ x. k.either x (cond (begun I s) (G 0) k.never)) (both_never_right k laws (F 0)) ∙ laws.either_never _)

    later : (s : ℕ) → s ≤ last_shift I → (i : ℕ) →
        either_up_to k (suc i) (term s (suc i)) ≡ stepped k I s (F (suc i)) (G (suc i)) (at_shift_or (λ m. either_up_to k i (term m i)) k.never (moved I s (ρ.stamp (suc i) - ρ.stamp i)))
    later s le i =
        ap₂ k.either
        (either_up_to_same k laws i _ _ (λ j before. older s i j le before) ∙ sym (both_either_up_to k laws (F (suc i)) i _)
        ∙ ap (k.both (F (suc i))) (moved_terms i (moved I s (ρ.stamp (suc i) - ρ.stamp i))))
        (here s (suc i) le)
        ∙ laws.either_comm _ _

  pub since_step_zero : SinceStarts k
  unfolding F G term
  since_step_zero ρ I f g s le = zeroth ρ I f g s le

  pub since_step_suc : SinceSteps k
  unfolding F G term
  since_step_suc ρ I f g s le i = later ρ I f g s le i
