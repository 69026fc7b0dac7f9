-- What the laws of a kind of truth give: the constants on the other side, swapped arguments, tests and eithers of many.
use Rattle.std.proofs.Common.{◌≡◌, ℕ, zero, suc, ◌≤◌, Bool, true, false, cond, sym, refl, ap, ◌∙◌, ap₂, arith}
use Rattle.truth.specs.Laws.{Ops, Laws}
use Rattle.logic.specs.Values.{either_up_to}

module _ {T : Type 0} (k : Ops T) (laws : Laws k) where
  pub both_never_right : (x : T) → k.both x k.never ≡ k.never
  both_never_right x = laws.both_comm x k.never ∙ laws.both_never x

  pub both_always_right : (x : T) → k.both x k.always ≡ x
  both_always_right x = laws.both_comm x k.always ∙ laws.both_always x

  pub both_swap : (x y z : T) → k.both x (k.both y z) ≡ k.both y (k.both x z)
  both_swap x y z = sym (laws.both_assoc x y z) ∙ ap (λ w. k.both w z) (laws.both_comm x y) ∙ laws.both_assoc y x z

  pub both_cond : (b : Bool) (x y : T) → k.both x (cond b y k.never) ≡ cond b (k.both x y) k.never
  both_cond true x y = refl
  both_cond false x y = both_never_right x

  pub either_up_to_same : (i : ℕ) (f g : ℕ → T) → ((j : ℕ) → j ≤ i → f j ≡ g j) → either_up_to k i f ≡ either_up_to k i g
  either_up_to_same zero f g h = h 0 (omega arith)
  either_up_to_same (suc i) f g h = ap₂ k.either (either_up_to_same i f g (λ j le. h j (omega arith))) (h (suc i) (omega arith))

  pub both_either_up_to : (x : T) (i : ℕ) (f : ℕ → T) → k.both x (either_up_to k i f) ≡ either_up_to k i (λ j. k.both x (f j))
  both_either_up_to x zero f = refl
  both_either_up_to x (suc i) f =
      laws.both_over x (either_up_to k i f) (f (suc i)) ∙ ap (λ y. k.either y (k.both x (f (suc i)))) (both_either_up_to x i f)

  pub either_up_to_never : (i : ℕ) → either_up_to k i (λ j. k.never) ≡ k.never
  either_up_to_never zero = refl
  either_up_to_never (suc i) = ap (λ y. k.either y k.never) (either_up_to_never i) ∙ laws.either_never k.never
