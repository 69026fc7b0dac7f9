-- Any points whose stamps never fall can be continued for ever: by the newest point again and again.
use Rattle.std.proofs.Common.{◌≡◌, ℕ, suc, ◌≤◌, Bool, true, false, cond, ltb, List, [], ◌∷◌, length, refl, ◌∙◌, inl, inr, arith}
use Rattle.std.proofs.lemmas.Bool.{cases_lt, lt-ltb, le-ltb, cond-true, cond-false}
use Rattle.logic.specs.Logic.{Stream, Accepted, Begins}
use Rattle.logic.specs.Verdicts.{Rising, Continues}

-- point i, and the newest from its place on
point : Accepted Bool → List (Accepted Bool) → ℕ → Accepted Bool
point p [] i = p
point p (q ∷ ps) i = cond (ltb (length ps) i) p (point q ps i)

stamps_le : (p : Accepted Bool) (ps : List (Accepted Bool)) → Rising (p ∷ ps) → (i : ℕ) → (point p ps i).stamp ≤ p.stamp
unfolding point
stamps_le p [] r i = omega arith
stamps_le p (q ∷ ps) r i =
    let h = stamps_le q ps r.1 i in
    elim (ltb (length ps) i) as (λ b. (cond b p (point q ps i)).stamp ≤ p.stamp) [ true ↦ omega arith | false ↦ omega (arith, r.0) ]

stamps_rise : (p : Accepted Bool) (ps : List (Accepted Bool)) → Rising (p ∷ ps) → (i : ℕ) → (point p ps i).stamp ≤ (point p ps (suc i)).stamp
unfolding point
stamps_rise p [] r i = omega arith
stamps_rise p (q ∷ ps) r i = elim (cases_lt (length ps) (suc i)) [
  | inl a ↦ rw (lt-ltb (length ps) (suc i) a) (stamps_le p (q ∷ ps) r i)
  | inr b ↦ rw (le-ltb (length ps) (suc i) b, le-ltb (length ps) i (omega arith)) (stamps_rise q ps r.1 i)
]

begins : (ρ : Stream Bool) (p : Accepted Bool) (ps : List (Accepted Bool)) →
    ((i : ℕ) → i ≤ length ps → (ρ.stamp i ≡ (point p ps i).stamp) × (ρ.letters i ≡ (point p ps i).letters)) → Begins ρ (p ∷ ps)
unfolding point
begins ρ p [] h = ((h 0 (omega arith)).0, (λ l i. (h 0 (omega arith)).1 i l), tt)
begins ρ p (q ∷ ps) h =
    let n = length ps in
    let here = cond-true (ltb n (suc n)) p (point q ps (suc n)) (lt-ltb n (suc n) (omega arith)) in
    let last = h (suc n) (omega arith) in (
      last.0 ∙ (λ i. (here i).stamp),
      (λ l. (λ i. last.1 i l) ∙ (λ i. (here i).letters l)),
      begins ρ q ps (λ i le.
          let older = cond-false (ltb n i) p (point q ps i) (le-ltb n i le) in
          let there = h i (omega arith) in (there.0 ∙ (λ k. (older k).stamp), there.1 ∙ (λ k. (older k).letters))),
    )

pub continues : Continues
continues p ps r =
    let ρ : Stream Bool = record { stamp = λ i. (point p ps i).stamp; letters = λ i. (point p ps i).letters; rises = stamps_rise p ps r } in
    (ρ, begins ρ p ps (λ i le. (refl, refl)))
