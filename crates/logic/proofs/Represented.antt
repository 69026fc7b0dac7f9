-- Tables that represent conditions: operations, carried tables, and tests of sameness.
use Rattle.std.proofs.Common.{◌≡◌, ℕ, ◌<◌, ◌≤◌, Bool, true, false, List, get_or, Decides, sym, ap, ◌∙◌, arith}
use Rattle.std.proofs.lemmas.Slice.Eq.{bytes_eq-Decides}
use Rattle.truth.specs.declared.table.Condition.{Condition}
use Rattle.truth.specs.Words.{wait_count, bit}
use Rattle.truth.specs.Tables.{means, openly}
use Rattle.truth.specs.Replacing.{setting_of, replaced}
use Rattle.truth.specs.Same.{same_words}
use Rattle.truth.specs.Meaning.{by_meaning, meant}
use Rattle.truth.proofs.Tabled.{replaced_means, setting_lt, setting_bit}
use Rattle.logic.specs.Numbers.{Looks, Represents}
use Rattle.logic.specs.Draws.{alike}
use Rattle.logic.proofs.Numbered.{known_by_numbers}

-- the constant conditions
pub always_represents : Represents openly.always (λ v. true)
always_represents n h = meant.always n h

pub never_represents : Represents openly.never (λ v. false)
never_represents n h = meant.never n h

-- the test of sameness decides it
pub alike_decides : (c d : Condition) → Decides (alike c d) (c ≡ d)
alike_decides c d = let h = bytes_eq-Decides c.words d.words in (λ e. same_words c d (h.0 e), λ e. h.1 (ap (λ x. x.words) e))

-- and so whether the conditions agree at every setting
module _ (c d : Condition) (f g : (ℕ → Bool) → Bool) (rc : Represents c f) (rd : Represents d g) where
  agree_same : ((v : ℕ → Bool) → f v ≡ g v) → c ≡ d
  agree_same e = by_meaning c d (λ n h. rc n h ∙ e (bit n) ∙ sym (rd n h))

  pub same_agree : Looks wait_count f → Looks wait_count g → c ≡ d → (v : ℕ → Bool) → f v ≡ g v
  same_agree lf lg e = known_by_numbers wait_count f g lf lg (λ n h. sym (rc n h) ∙ ap (λ x. means x n) e ∙ rd n h)

  pub alike_agree : Looks wait_count f → Looks wait_count g → alike c d ≡ true → (v : ℕ → Bool) → f v ≡ g v
  alike_agree lf lg e = same_agree lf lg ((alike_decides c d).0 e)

  pub agree_alike : ((v : ℕ → Bool) → f v ≡ g v) → alike c d ≡ true
  agree_alike e = (alike_decides c d).1 (agree_same e)

-- a condition with its waits replaced, of which only the first m count
pub replaced_represents : (cs : List Condition) (c : Condition) (m : ℕ) (f : (ℕ → Bool) → Bool) (g : (ℕ → Bool) → ℕ → Bool) → m ≤ wait_count → Represents c f →
    ((v u : ℕ → Bool) → ((w : ℕ) → w < m → v w ≡ u w) → f v ≡ f u) →
    ((w : ℕ) → w < m → Represents (get_or cs w openly.never) (λ v. g v w)) → Represents (replaced cs c) (λ v. f (g v))
replaced_represents cs c m f g le rc local rs n h =
    replaced_means cs c n h ∙ rc (setting_of cs n) (setting_lt cs n)
    ∙ local (bit (setting_of cs n)) (g (bit n)) (λ w lt. setting_bit cs n w (omega arith) ∙ rs w lt n h)
