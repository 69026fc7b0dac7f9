-- Bools that say whether a statement is true.
use Rattle.std.proofs.Common.{◌≡◌, ℕ, ◌≤◌, Bool, true, false, cond, not, ◌&&◌, ◌||◌, leb, ◌↔◌, Some, None, Option, refl}
use Rattle.std.proofs.lemmas.Bool.{leb-true, le-leb, and_parts, and_from, false≢true}
use Rattle.truth.specs.Plain.{plainly}
use Rattle.rule.specs.declared.interval.Interval.{Interval}
use Rattle.rule.specs.Intervals.{up_to, within, last_shift}
use Rattle.logic.specs.Logic.{Under, In, Not, Or, Tells}
use Rattle.logic.specs.Values.{at_shift_or, stepped}
use Rattle.logic.specs.Conditions.{At, only}

pub tells_iff : {A B : Type 0} {b : Bool} → A ↔ B → Tells B b → Tells A b
tells_iff e t = ((λ a. t.0 (e.0 a)), (λ h. e.1 (t.1 h)))

pub tells_yes : {A : Type 0} → A → Tells A true
tells_yes a = ((λ x. refl), (λ h. a))

pub tells_no : {A : Type 0} → Not A → Tells A false
tells_no n = ((λ a. absurd (n a)), (λ h. absurd (false≢true h)))

pub tells_not : {A : Type 0} (b : Bool) → Tells A b → Tells (Not A) (not b)
tells_not true t = tells_no (λ n. n (t.1 refl))
tells_not false t = tells_yes (λ a. false≢true (t.0 a))

pub tells_and : {A B : Type 0} (a b : Bool) → Tells A a → Tells B b → Tells (A × B) (a && b)
tells_and a b s t = ((λ h. and_from a b (s.0 h.0) (t.0 h.1)), (λ h. let e = and_parts a b h in (s.1 e.0, t.1 e.1)))

pub tells_or : {A B : Type 0} (a b : Bool) → Tells A a → Tells B b → Tells (Or A B) (a || b)
tells_or true b s t = tells_yes (λ n. n.0 (s.1 refl))
tells_or false true s t = tells_yes (λ n. n.1 (t.1 refl))
tells_or false false s t = tells_no (λ o. o ((λ x. false≢true (s.0 x)), (λ y. false≢true (t.0 y))))

pub tells_cond : {A B : Type 0} (a b : Bool) → Tells A a → Tells B b → Tells (A × B) (cond a b false)
tells_cond true b s t = tells_and true b s t
tells_cond false b s t = tells_and false b s t

pub tells_leb : (a b : ℕ) → Tells (a ≤ b) (leb a b)
tells_leb a b = (le-leb a b, leb-true a b)

pub tells_in : (I : Interval) (d : ℕ) → Tells (In I d) (within I d)
tells_in I d = tells_and (leb I.low d) (up_to I.high d) (tells_leb I.low d) (under I.high)
  where
    under : (h : Option ℕ) → Tells (Under h d) (up_to h d)
    under None = tells_yes tt
    under (Some h) = tells_leb d h

pub tells_stepped : {A B C : Type 0} (I : Interval) (s : ℕ) (a b c : Bool) → Tells A a → Tells B b → Tells C c →
    Tells (Or ((I.low ≤ s) × B) (A × C)) (stepped plainly I s a b c)
tells_stepped I s a b c ta tb tc =
    tells_or (cond (leb I.low s) b false) (a && c) (tells_cond (leb I.low s) b (tells_leb I.low s) tb) (tells_and a c ta tc)

pub tells_at : {P : ℕ → Type 0} {c : ℕ → Bool} (z : Option ℕ) → ((m : ℕ) → z ≡ Some m → Tells (P m) (c m)) → Tells (At z P) (at_shift_or c false z)
tells_at None t = tells_no (λ a. a)
tells_at (Some m) t = t m refl

-- what a Bool tells is stable
pub tells_stable : {A : Type 0} (b : Bool) → Tells A b → Not (Not A) → A
tells_stable true t n = t.1 refl
tells_stable false t n = absurd (n (λ a. false≢true (t.0 a)))

pub tells_only : {A : Type 0} (I : Interval) (c : ℕ → Bool) (s : ℕ) → s ≤ last_shift I → Tells A (c s) → Tells A (only I c s)
tells_only I c s h t = let e = le-leb s (last_shift I) h in rw e t
