-- The one-step equations of since and until at a shift, over any two properties of points.
use Rattle.std.proofs.Common.{◌≡◌, ℕ, suc, ◌+◌, ◌-◌, ◌≤◌, ◌↔◌, Some, None, Option, sym, ◌∙◌, subst, inl, inr, arith}
use Rattle.std.proofs.lemmas.Bool.{cases_order}
use Rattle.rule.specs.declared.interval.Interval.{Interval}
use Rattle.rule.specs.Intervals.{last_shift, moved, at_shift}
use Rattle.logic.specs.Logic.{In, Or, Since, Until, Stream}
use Rattle.logic.specs.Conditions.{At}
use Rattle.logic.proofs.Shifts.{within_begun, within_moved}
use Rattle.logic.proofs.Telling.{tells_in, tells_leb, tells_at}
use Rattle.logic.proofs.Witness.{stamps_rise}

-- the interval at a shift has the difference 0 where it has begun
module _ (I : Interval) (s d : ℕ) (le : s ≤ last_shift I) (z : d ≡ 0) where
  in_begun : I.low ≤ s → In (at_shift s I) d
  in_begun h = (tells_in (at_shift s I) d).1 (within_begun I s d le z ∙ (tells_leb I.low s).0 h)

  begun_in : In (at_shift s I) d → I.low ≤ s
  begun_in h = (tells_leb I.low s).1 (sym (within_begun I s d le z) ∙ (tells_in (at_shift s I) d).0 h)

-- a difference across a gap, from the shift to which the gap moves
module _ (I : Interval) (s g d e : ℕ) (le : s ≤ last_shift I) (q : e ≡ g + d) where
  onto_moved : In (at_shift s I) e → At (moved I s g) (λ m. In (at_shift m I) d)
  onto_moved h = (tells_at (moved I s g) (λ m z. tells_in (at_shift m I) d)).1 (sym (within_moved I s g d e le q) ∙ (tells_in (at_shift s I) e).0 h)

  back_moved : At (moved I s g) (λ m. In (at_shift m I) d) → In (at_shift s I) e
  back_moved h = (tells_in (at_shift s I) e).1 (within_moved I s g d e le q ∙ (tells_at (moved I s g) (λ m z. tells_in (at_shift m I) d)).0 h)

at_map : {P Q : ℕ → Type 0} (z : Option ℕ) → ((m : ℕ) → P m → Q m) → At z P → At z Q
at_map None f h = h
at_map (Some m) f h = f m h

module _ {T : Type 0} (ρ : Stream T) (I : Interval) (P Q : ℕ → Type 0) (s : ℕ) (le : s ≤ last_shift I) where
  abbrev gap : ℕ → ℕ
  gap i = ρ.stamp (suc i) - ρ.stamp i

  -- the point itself is a witness
  since_here : (i : ℕ) → I.low ≤ s → Q i → Since ρ.stamp (at_shift s I) P Q i
  since_here i z q none =
      none i (omega arith, in_begun I s (ρ.stamp i - ρ.stamp i) le (omega arith) z, q, λ n lo hi. absurd (let c : ⊥ = omega arith in c))

  -- an older point is
  since_old : (i : ℕ) (z : Option ℕ) → ((j : ℕ) → j ≤ i → At z (λ m. In (at_shift m I) (ρ.stamp i - ρ.stamp j)) → In (at_shift s I) (ρ.stamp (suc i) - ρ.stamp j)) →
      P (suc i) → At z (λ m. Since ρ.stamp (at_shift m I) P Q i) → Since ρ.stamp (at_shift s I) P Q (suc i)
  since_old i None back p w = absurd w
  since_old i (Some m) back p w = λ none. w (λ j h. none j (
    omega (arith, h.0),
    back j h.0 h.1,
    h.2,
    λ n lo hi. elim (cases_order n (suc i)) [
      | inl e ↦ subst P (sym e) p
      | inr (inl lt) ↦ h.3 n lo (omega arith)
      | inr (inr gt) ↦ absurd (let c : ⊥ = omega arith in c)
    ],
  ))

  since_parts : (i : ℕ) → Since ρ.stamp (at_shift s I) P Q (suc i) →
      Or ((I.low ≤ s) × Q (suc i)) (P (suc i) × At (moved I s (gap i)) (λ m. Since ρ.stamp (at_shift m I) P Q i))
  since_parts i w = λ nots. w (λ j h. elim (cases_order j (suc i)) [
    | inl e ↦ nots.0 (begun_in I s (ρ.stamp (suc i) - ρ.stamp j) le (rw e (omega arith)) h.1, subst Q e h.2)
    | inr (inl lt) ↦
        let lower = stamps_rise ρ j i (omega arith) in let upper = ρ.rises i in
        nots.1 (
          h.3 (suc i) lt (omega arith),
          at_map (moved I s (gap i)) (λ m a none. none j (omega arith, a, h.2, λ n lo hi. h.3 n lo (omega arith)))
              (onto_moved I s (gap i) (ρ.stamp i - ρ.stamp j) (ρ.stamp (suc i) - ρ.stamp j) le (omega arith) h.1),
        )
    | inr (inr gt) ↦ let c : ⊥ = omega (arith, h.0) in c
  ])

  pub since_first : Since ρ.stamp (at_shift s I) P Q 0 ↔ Or ((I.low ≤ s) × Q 0) ⊥
  since_first = (
    (λ w nots. w (λ j h.
        let e : j ≡ 0 = omega (arith, h.0) in
        nots.0 (begun_in I s (ρ.stamp 0 - ρ.stamp j) le (rw e (omega arith)) h.1, subst Q e h.2))),
    λ o none. o ((λ a. since_here 0 a.0 a.1 none), λ b. b),
  )

  pub since_step : (i : ℕ) → Since ρ.stamp (at_shift s I) P Q (suc i) ↔
      Or ((I.low ≤ s) × Q (suc i)) (P (suc i) × At (moved I s (gap i)) (λ m. Since ρ.stamp (at_shift m I) P Q i))
  since_step i =
      let back : (j : ℕ) → j ≤ i → At (moved I s (gap i)) (λ m. In (at_shift m I) (ρ.stamp i - ρ.stamp j)) → In (at_shift s I) (ρ.stamp (suc i) - ρ.stamp j) = λ j h.
      let lower = stamps_rise ρ j i h in let upper = ρ.rises i in
      back_moved I s (gap i) (ρ.stamp i - ρ.stamp j) (ρ.stamp (suc i) - ρ.stamp j) le (omega arith) in
      (since_parts i, λ o none. o ((λ a. since_here (suc i) a.0 a.1 none), (λ b. since_old i (moved I s (gap i)) back b.0 b.1 none)))

  until_here : (i : ℕ) → I.low ≤ s → Q i → Until ρ.stamp (at_shift s I) P Q i
  until_here i z q none =
      none i (omega arith, in_begun I s (ρ.stamp i - ρ.stamp i) le (omega arith) z, q, λ n lo hi. absurd (let c : ⊥ = omega arith in c))

  until_later : (i : ℕ) (z : Option ℕ) → ((j : ℕ) → suc i ≤ j → At z (λ m. In (at_shift m I) (ρ.stamp j - ρ.stamp (suc i))) → In (at_shift s I) (ρ.stamp j - ρ.stamp i)) →
      P i → At z (λ m. Until ρ.stamp (at_shift m I) P Q (suc i)) → Until ρ.stamp (at_shift s I) P Q i
  until_later i None back p w = absurd w
  until_later i (Some m) back p w = λ none. w (λ j h. none j (
    omega (arith, h.0),
    back j h.0 h.1,
    h.2,
    λ n lo hi. elim (cases_order n i) [
      | inl e ↦ subst P (sym e) p
      | inr (inl lt) ↦ absurd (let c : ⊥ = omega arith in c)
      | inr (inr gt) ↦ h.3 n gt hi
    ],
  ))

  until_parts : (i : ℕ) → Until ρ.stamp (at_shift s I) P Q i →
      Or ((I.low ≤ s) × Q i) (P i × At (moved I s (gap i)) (λ m. Until ρ.stamp (at_shift m I) P Q (suc i)))
  until_parts i w = λ nots. w (λ j h. elim (cases_order j i) [
    | inl e ↦ nots.0 (begun_in I s (ρ.stamp j - ρ.stamp i) le (rw e (omega arith)) h.1, subst Q e h.2)
    | inr (inl lt) ↦ let c : ⊥ = omega (arith, h.0) in c
    | inr (inr gt) ↦
        let lower = stamps_rise ρ (suc i) j gt in let upper = ρ.rises i in
        nots.1 (
          h.3 i (omega arith) gt,
          at_map (moved I s (gap i)) (λ m a none. none j (gt, a, h.2, λ n lo hi. h.3 n (omega arith) hi))
              (onto_moved I s (gap i) (ρ.stamp j - ρ.stamp (suc i)) (ρ.stamp j - ρ.stamp i) le (omega arith) h.1),
        )
  ])

  pub until_step : (i : ℕ) → Until ρ.stamp (at_shift s I) P Q i ↔
      Or ((I.low ≤ s) × Q i) (P i × At (moved I s (gap i)) (λ m. Until ρ.stamp (at_shift m I) P Q (suc i)))
  until_step i =
      let back : (j : ℕ) → suc i ≤ j → At (moved I s (gap i)) (λ m. In (at_shift m I) (ρ.stamp j - ρ.stamp (suc i))) → In (at_shift s I) (ρ.stamp j - ρ.stamp i) = λ j h.
      let lower = stamps_rise ρ (suc i) j h in let upper = ρ.rises i in
      back_moved I s (gap i) (ρ.stamp j - ρ.stamp (suc i)) (ρ.stamp j - ρ.stamp i) le (omega arith) in
      (until_parts i, λ o none. o ((λ a. until_here i a.0 a.1 none), (λ b. until_later i (moved I s (gap i)) back b.0 b.1 none)))
