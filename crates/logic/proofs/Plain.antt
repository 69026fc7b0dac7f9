-- The plain value of a formula without future operators says whether it is true.
use Rattle.std.proofs.Common.{◌≡◌, ℕ, zero, suc, ◌-◌, ◌<◌, ◌≤◌, Bool, true, false, cond, ◌&&◌, leb, sym, refl, subst, inl, inr, arith}
use Rattle.std.proofs.lemmas.Bool.{leb-true, leb-false, cases_order}
use Rattle.truth.specs.Plain.{plainly}
use Rattle.rule.specs.Intervals.{within}
use Rattle.logic.specs.Logic.{Exists, Tells}
use Rattle.logic.specs.Logic.{truth, letter, negation, conjunction, disjunction, previous, since, next, until}
use Rattle.logic.specs.Values.{either_up_to, both_after, value, PlainTells}
use Rattle.logic.proofs.Telling.{tells_iff, tells_yes, tells_no, tells_not, tells_and, tells_or, tells_cond, tells_in, tells_stable}

tells_either_up_to : {P : ℕ → Type 0} (i : ℕ) (b : ℕ → Bool) → ((j : ℕ) → j ≤ i → Tells (P j) (b j)) →
    Tells (Exists (λ j. (j ≤ i) × P j)) (either_up_to plainly i b)
tells_either_up_to {P} zero b t =
    let t0 = t 0 (omega arith) in
    tells_iff ((λ e. tells_stable (b 0) t0 (λ n. e (λ j h. n (subst P (let q : j ≡ 0 = omega (arith, h.0) in q) h.1)))), (λ p none. none 0 (omega arith, p))) t0
tells_either_up_to {P} (suc i) b t =
    tells_iff (
      (λ e nots. e (λ j h. elim (cases_order j (suc i)) [
        | inl q ↦ nots.1 (subst P q h.1)
        | inr (inl lt) ↦ nots.0 (λ none. none j (omega arith, h.1))
        | inr (inr gt) ↦ let c : ⊥ = omega (arith, h.0) in c
      ])),
      (λ o none. o ((λ e. e (λ j h. none j (omega (arith, h.0), h.1))), (λ p. none (suc i) (omega arith, p)))),
    )
    (tells_or (either_up_to plainly i b) (b (suc i)) (tells_either_up_to i b (λ j le. t j (omega arith))) (t (suc i) (omega arith)))

tells_both_after : {Q : ℕ → Type 0} (j i : ℕ) (b : ℕ → Bool) → ((n : ℕ) → n ≤ i → Tells (Q n) (b n)) →
    Tells ((n : ℕ) → j < n → n ≤ i → Q n) (both_after plainly j i b)
tells_both_after j zero b t = tells_yes (λ n lo hi. absurd (let c : ⊥ = omega arith in c))
tells_both_after {Q} j (suc i) b t = go (leb j i) refl (tells_both_after j i b (λ n le. t n (omega arith)))
  where
    go : (c : Bool) → leb j i ≡ c → Tells ((n : ℕ) → j < n → n ≤ i → Q n) (both_after plainly j i b) → Tells ((n : ℕ) → j < n → n ≤ suc i → Q n) (cond c (both_after plainly j i b && b (suc i)) true)
    go true e before =
        let le = leb-true j i e in
        tells_iff (
          (λ h. ((λ n lo hi. h n lo (omega arith)), h (suc i) (omega arith) (omega arith))),
          (λ h n lo hi. elim (cases_order n (suc i)) [
            | inl q ↦ subst Q (sym q) h.1
            | inr (inl lt) ↦ h.0 n lo (omega arith)
            | inr (inr gt) ↦ absurd (let c : ⊥ = omega arith in c)
          ]),
        )
        (tells_and (both_after plainly j i b) (b (suc i)) before (t (suc i) (omega arith)))
    go false e before = let lt = leb-false j i e in tells_yes (λ n lo hi. absurd (let c : ⊥ = omega arith in c))

pub plain_tells : PlainTells
plain_tells ρ truth p i = tells_yes tt
plain_tells ρ (letter l) p i = ((λ e. e), (λ e. e))
plain_tells ρ (negation f) p i = tells_not (value plainly ρ f i) (plain_tells ρ f p i)
plain_tells ρ (conjunction f g) p i = tells_and (value plainly ρ f i) (value plainly ρ g i) (plain_tells ρ f p.0 i) (plain_tells ρ g p.1 i)
plain_tells ρ (disjunction f g) p i = tells_or (value plainly ρ f i) (value plainly ρ g i) (plain_tells ρ f p.0 i) (plain_tells ρ g p.1 i)
plain_tells ρ (previous I f) p zero = tells_no (λ a. a)
plain_tells ρ (previous I f) p (suc i) =
    tells_cond (within I (ρ.stamp (suc i) - ρ.stamp i)) (value plainly ρ f i) (tells_in I (ρ.stamp (suc i) - ρ.stamp i)) (plain_tells ρ f p i)
plain_tells ρ (since I f g) p i =
    tells_iff
    ((λ e none. e (λ j h. none j (h.0, (h.1, (h.2, h.3))))), (λ e none. e (λ j h. none j (h.0, h.1.0, h.1.1.0, h.1.1.1))))
    (tells_either_up_to i _ (λ j le.
    tells_cond (within I (ρ.stamp i - ρ.stamp j)) (value plainly ρ g j && both_after plainly j i (value plainly ρ f)) (tells_in I (ρ.stamp i - ρ.stamp j))
    (tells_and (value plainly ρ g j) (both_after plainly j i (value plainly ρ f)) (plain_tells ρ g p.1 j) (tells_both_after j i (value plainly ρ f) (λ n le. plain_tells ρ f p.0 n)))))
plain_tells ρ (next I f) p i = absurd p
plain_tells ρ (until I f g) p i = absurd p
