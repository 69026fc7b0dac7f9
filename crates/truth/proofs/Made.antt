-- Each element of an array that a closure made, one by one, is what the closure answers at its index.
use Rattle.std.proofs.Common.{◌≡◌, ℕ, zero, suc, ◌+◌, ◌<◌, List, get_or, subst, sym, arith}
use denote.Param.Members.{Mut, Called}
use Rattle.std.specs.Array.{IsFromFnResultFrom, IsFromFnResult}

module _ {F B : Type 0} (g : Mut F (ℕ × Unit {0}) B) (P : ℕ → B → Type 0) (e : B) (ys : List B) where
  made_from : (f : F) → ((i : ℕ) (y : B) (q : F) → Called g f (i, tt) y q → (q ≡ f) × P i y)
      → (i n k m : ℕ) → IsFromFnResultFrom g f ys i n → k < n → m ≡ i + k → P m (get_or ys m e)
  made_from f h i zero k m y l at = absurd (omega arith)
  made_from f h i (suc n) zero m y l at =
      let here : i ≡ m = omega arith in
      let said = h i y.1 y.0 y.3 in
      subst (λ v. P v (get_or ys v e)) here (subst (P i) (sym (y.2.1 e)) said.1)
  made_from f h i (suc n) (suc k) m y l at =
      let kept = (h i y.1 y.0 y.3).0 in
      made_from f h (i + 1) n k m (subst (λ q. IsFromFnResultFrom g q ys (i + 1) n) kept y.4) (omega arith) (omega arith)

  pub made_at : (f : F) (n : ℕ) → IsFromFnResult g f ys n → ((i : ℕ) (y : B) (q : F) → Called g f (i, tt) y q → (q ≡ f) × P i y)
      → (k : ℕ) → k < n → P k (get_or ys k e)
  made_at f n y h k l = made_from f h 0 n k k y.each l (omega arith)
