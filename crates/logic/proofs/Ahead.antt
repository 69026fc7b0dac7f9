-- An older point's condition is its condition when it was newest, at a setting carried back through the points accepted after it.
use Rattle.std.proofs.Common.{◌≡◌, ℕ, suc, ◌≤◌, Bool, eqb, List, [], ◌∷◌, length, sym, refl, ap, ◌∙◌, inl, inr, arith}
use Rattle.std.proofs.lemmas.Bool.{cases_eq, eq-eqb, ne_eqb, cond-true, cond-false}
use Rattle.rule.specs.declared.interval.Interval.{Interval}
use Rattle.logic.specs.Logic.{Formula, Accepted, negation, conjunction, disjunction, previous, since, next, until}
use Rattle.logic.specs.Conditions.{Setting, of_point, condition, carried, carry}
use Rattle.logic.specs.Verdicts.{Rising}
use Rattle.logic.specs.Reach.{stamp_of}

-- the setting after all of ls, which stand oldest first and come after es, carried back to es
unfoldable pub ahead : List (Accepted Bool) → List (Accepted Bool) → (f : Formula) → Setting f → Setting f
ahead [] es f v = v
ahead (p ∷ ls) es f v = carried p es f (ahead ls (p ∷ es) f v)

-- the latest stamp, where ls come after q
abbrev pub latest : List (Accepted Bool) → Accepted Bool → ℕ
latest [] q = q.stamp
latest (p ∷ ls) q = latest ls p

-- the stamps of q and of ls, which come after it, never fall
abbrev pub Climbs : Accepted Bool → List (Accepted Bool) → Type 0
Climbs q [] = Unit {0}
Climbs q (p ∷ ls) = (q.stamp ≤ p.stamp) × Climbs p ls

pub climbs_latest : (q : Accepted Bool) (ls : List (Accepted Bool)) → Climbs q ls → q.stamp ≤ latest ls q
climbs_latest q [] h = omega arith
climbs_latest q (p ∷ ls) h = let a = climbs_latest p ls h.1 in omega (arith, h.0)

-- two ways to the same
pub via : {A : Type 0} {x y a b : A} → x ≡ a → a ≡ b → y ≡ b → x ≡ y
via p q r = p ∙ q ∙ sym r

-- the setting of each part is carried back by itself
pub ahead_not : (ls es : List (Accepted Bool)) (f : Formula) (v : Setting f) → ahead ls es (negation f) v ≡ ahead ls es f v
unfolding ahead carried carry
ahead_not [] es f v = refl
ahead_not (p ∷ ls) es f v = ap (carried p es f) (ahead_not ls (p ∷ es) f v)

pub ahead_previous : (ls es : List (Accepted Bool)) (I : Interval) (f : Formula) (v : Setting f) → ahead ls es (previous I f) v ≡ ahead ls es f v
unfolding ahead carried carry
ahead_previous [] es I f v = refl
ahead_previous (p ∷ ls) es I f v = ap (carried p es f) (ahead_previous ls (p ∷ es) I f v)

pub ahead_and : (ls es : List (Accepted Bool)) (f g : Formula) (v : Setting (conjunction f g)) → ahead ls es (conjunction f g) v ≡ (ahead ls es f v.0, ahead ls es g v.1)
unfolding ahead carried carry
ahead_and [] es f g v = refl
ahead_and (p ∷ ls) es f g v = ap (carried p es (conjunction f g)) (ahead_and ls (p ∷ es) f g v)

pub ahead_or : (ls es : List (Accepted Bool)) (f g : Formula) (v : Setting (disjunction f g)) → ahead ls es (disjunction f g) v ≡ (ahead ls es f v.0, ahead ls es g v.1)
unfolding ahead carried carry
ahead_or [] es f g v = refl
ahead_or (p ∷ ls) es f g v = ap (carried p es (disjunction f g)) (ahead_or ls (p ∷ es) f g v)

pub ahead_since : (ls es : List (Accepted Bool)) (I : Interval) (f g : Formula) (v : Setting (since I f g)) → ahead ls es (since I f g) v ≡ (ahead ls es f v.0, ahead ls es g v.1)
unfolding ahead carried carry
ahead_since [] es I f g v = refl
ahead_since (p ∷ ls) es I f g v = ap (carried p es (since I f g)) (ahead_since ls (p ∷ es) I f g v)

pub ahead_next : (ls es : List (Accepted Bool)) (I : Interval) (f : Formula) (v : Setting (next I f)) → (ahead ls es (next I f) v).1 ≡ ahead ls es f v.1
unfolding ahead carried carry
ahead_next [] es I f v = refl
ahead_next (p ∷ ls) es I f v = ap (carried p es f) (ahead_next ls (p ∷ es) I f v)

pub ahead_left : (ls es : List (Accepted Bool)) (I : Interval) (f g : Formula) (v : Setting (until I f g)) → (ahead ls es (until I f g) v).1 ≡ ahead ls es f v.1
unfolding ahead carried carry
ahead_left [] es I f g v = refl
ahead_left (p ∷ ls) es I f g v = ap (carried p es f) (ahead_left ls (p ∷ es) I f g v)

pub ahead_right : (ls es : List (Accepted Bool)) (I : Interval) (f g : Formula) (v : Setting (until I f g)) → (ahead ls es (until I f g) v).2 ≡ ahead ls es g v.2
unfolding ahead carried carry
ahead_right [] es I f g v = refl
ahead_right (p ∷ ls) es I f g v = ap (carried p es g) (ahead_right ls (p ∷ es) I f g v)

-- point i, the points before it and those after it
pub record Split (ls : List (Accepted Bool)) (p : Accepted Bool) (ps : List (Accepted Bool)) (i : ℕ) : Type 0 where
  pub here : Accepted Bool
  pub before : List (Accepted Bool)
  pub later : List (Accepted Bool)
  pub same : (f : Formula) (v : Setting f) → of_point (p ∷ ps) i f (ahead ls (p ∷ ps) f v) ≡ condition (here ∷ before) f 0 (ahead later (here ∷ before) f v)
  pub rising : Rising (here ∷ before)
  pub climbs : Climbs here later
  pub stamp_is : here.stamp ≡ stamp_of (p ∷ ps) i
  pub last_is : latest later here ≡ latest ls p

pub split : (ls : List (Accepted Bool)) (p : Accepted Bool) (ps : List (Accepted Bool)) (i : ℕ) → Rising (p ∷ ps) → Climbs p ls → i ≤ length ps → Split ls p ps i
unfolding of_point ahead
split ls p [] i r c le =
    let t = eq-eqb i 0 (omega arith) in
    record {
      here = p;
      before = [];
      later = ls;
      same = λ f v. cond-true (eqb i 0) (condition (p ∷ []) f 0 (ahead ls (p ∷ []) f v)) (of_point [] i f (carried p [] f (ahead ls (p ∷ []) f v))) t;
      rising = tt;
      climbs = c;
      stamp_is = sym (cond-true (eqb i 0) p.stamp 0 t);
      last_is = refl;
    }
split ls p (q ∷ qs) i r c le =
    elim (cases_eq i (suc (length qs))) [
      | inl e ↦
          let t = eq-eqb i (suc (length qs)) e in
          record {
            here = p;
            before = q ∷ qs;
            later = ls;
            same = λ f v. cond-true (eqb i (suc (length qs))) (condition (p ∷ (q ∷ qs)) f 0 (ahead ls (p ∷ (q ∷ qs)) f v)) (of_point (q ∷ qs) i f (carried p (q ∷ qs) f (ahead ls (p ∷ (q ∷ qs)) f v))) t;
            rising = r;
            climbs = c;
            stamp_is = sym (cond-true (eqb i (suc (length qs))) p.stamp (stamp_of (q ∷ qs) i) t);
            last_is = refl;
          }
      | inr ne ↦
          let t = ne_eqb i (suc (length qs)) ne in
          let s = split (p ∷ ls) q qs i r.1 (r.0, c) (omega arith) in
          record {
            here = s.here;
            before = s.before;
            later = s.later;
            same = λ f v. cond-false (eqb i (suc (length qs))) (condition (p ∷ (q ∷ qs)) f 0 (ahead ls (p ∷ (q ∷ qs)) f v)) (of_point (q ∷ qs) i f (carried p (q ∷ qs) f (ahead ls (p ∷ (q ∷ qs)) f v))) t ∙ s.same f v;
            rising = s.rising;
            climbs = s.climbs;
            stamp_is = s.stamp_is ∙ sym (cond-false (eqb i (suc (length qs))) p.stamp (stamp_of (q ∷ qs) i) t);
            last_is = s.last_is;
          }
    ]
