-- Laws that come from a kind that keeps them: values with a meaning there at each of some places, which tells them apart.
--
use Rattle.std.specs.Prelude.{◌≡◌, ℕ, ◌<◌, refl}
use Rattle.std.proofs.Common.{sym, ap, ap₂, ◌∙◌}
use Rattle.truth.specs.Laws.{Ops, Laws, Splits, Meant}

module _ {T S : Type 0} {k : Ops T} {b : Ops S} {size : ℕ} {m : T → ℕ → S} (meant : Meant k b size m) where
  module _ (n : ℕ) (h : n < size) where
    B : {x y : T} {u v : S} → m x n ≡ u → m y n ≡ v → m (k.both x y) n ≡ b.both u v
    B {x} {y} p q = meant.both x y n h ∙ ap₂ b.both p q

    E : {x y : T} {u v : S} → m x n ≡ u → m y n ≡ v → m (k.either x y) n ≡ b.either u v
    E {x} {y} p q = meant.either x y n h ∙ ap₂ b.either p q

    N : {x : T} {u : S} → m x n ≡ u → m (k.not x) n ≡ b.not u
    N {x} p = meant.not x n h ∙ ap b.not p

  pub pulled : Laws b → Laws k
  pulled laws = record {
    both_comm = λ x y. meant.apart _ _ (λ n h. B n h refl refl ∙ laws.both_comm _ _ ∙ sym (B n h refl refl));
    either_comm = λ x y. meant.apart _ _ (λ n h. E n h refl refl ∙ laws.either_comm _ _ ∙ sym (E n h refl refl));
    both_assoc = λ x y z. meant.apart _ _ (λ n h. B n h (B n h refl refl) refl ∙ laws.both_assoc _ _ _ ∙ sym (B n h refl (B n h refl refl)));
    either_assoc = λ x y z. meant.apart _ _ (λ n h. E n h (E n h refl refl) refl ∙ laws.either_assoc _ _ _ ∙ sym (E n h refl (E n h refl refl)));
    both_over = λ x y z. meant.apart _ _ (λ n h. B n h refl (E n h refl refl) ∙ laws.both_over _ _ _ ∙ sym (E n h (B n h refl refl) (B n h refl refl)));
    either_over = λ x y z. meant.apart _ _ (λ n h. E n h refl (B n h refl refl) ∙ laws.either_over _ _ _ ∙ sym (B n h (E n h refl refl) (E n h refl refl)));
    both_always = λ x. meant.apart _ _ (λ n h. B n h (meant.always n h) refl ∙ laws.both_always _);
    either_never = λ x. meant.apart _ _ (λ n h. E n h (meant.never n h) refl ∙ laws.either_never _);
    both_never = λ x. meant.apart _ _ (λ n h. B n h (meant.never n h) refl ∙ laws.both_never _ ∙ sym (meant.never n h));
    either_always = λ x. meant.apart _ _ (λ n h. E n h (meant.always n h) refl ∙ laws.either_always _ ∙ sym (meant.always n h));
    not_not = λ x. meant.apart _ _ (λ n h. N n h (N n h refl) ∙ laws.not_not _);
    not_both = λ x y. meant.apart _ _ (λ n h. N n h (B n h refl refl) ∙ laws.not_both _ _ ∙ sym (E n h (N n h refl) (N n h refl)));
    not_either = λ x y. meant.apart _ _ (λ n h. N n h (E n h refl refl) ∙ laws.not_either _ _ ∙ sym (B n h (N n h refl) (N n h refl)));
    differ = λ e. laws.differ (sym (meant.never 0 meant.some) ∙ ap (λ x. m x 0) e ∙ meant.always 0 meant.some);
  }

  pub pulled_splits : Splits b → Splits k
  pulled_splits splits = record {
    both_not = λ x. meant.apart _ _ (λ n h. B n h refl (N n h refl) ∙ splits.both_not _ ∙ sym (meant.never n h));
    either_not = λ x. meant.apart _ _ (λ n h. E n h refl (N n h refl) ∙ splits.either_not _ ∙ sym (meant.always n h));
  }
