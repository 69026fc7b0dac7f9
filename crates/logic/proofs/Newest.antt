-- The condition of a formula at the newest point says whether it is true there, and carried so the condition of every accepted point.
use Rattle.std.proofs.Common.{◌≡◌, ℕ, zero, suc, ◌-◌, ◌≤◌, Bool, false, cond, eqb, List, [], ◌∷◌, length, Some, None, Option, sym, refl, ap, ◌∙◌, subst, arith}
use Rattle.std.proofs.lemmas.Bool.{cond_both, eqb-true, eqb-false}
use Rattle.truth.specs.Plain.{plainly}
use Rattle.rule.specs.declared.interval.Interval.{Interval}
use Rattle.rule.specs.Intervals.{within, last_shift, moved, at_shift}
use Rattle.logic.specs.Logic.{Formula, Stream, Sat, Tells, Accepted, Begins, formula_at}
use Rattle.logic.specs.Logic.{truth, letter, negation, conjunction, disjunction, previous, since, next, until}
use Rattle.logic.specs.Values.{at_shift_or, stepped}
use Rattle.logic.specs.Steps.{fitting, across}
use Rattle.logic.specs.Conditions.{Setting, only, Open, newest, carry, gap_to, condition, carried, of_point, Awaits, Matches, last_of, SoundNewest, Sound}
use Rattle.rule.proofs.Numbering.{moved_le}
use Rattle.logic.proofs.Shifts.{formula_at_zero}
use Rattle.logic.proofs.Equations.{since_first, since_step, until_step}
use Rattle.logic.proofs.Telling.{tells_iff, tells_yes, tells_no, tells_not, tells_and, tells_or, tells_cond, tells_stepped, tells_at, tells_in, tells_only}

-- the gap of the stream before point n
abbrev gap_at : Stream Bool → ℕ → Option ℕ
gap_at ρ zero = None
gap_at ρ (suc n) = Some (ρ.stamp (suc n) - ρ.stamp n)

-- conditions that say what is true at point m
abbrev TellsAt : Stream Bool → ℕ → Open → Type 0
TellsAt ρ m c = (f : Formula) (s : ℕ) (v : Setting f) → Matches ρ m f v → s ≤ last_of f → Tells (Sat ρ (formula_at s f) m) (c f s v)

-- what is known one point before
abbrev Known : Stream Bool → ℕ → Open → Type 0
Known ρ n c = (m : ℕ) → n ≡ suc m → TellsAt ρ m c

abbrev Back : Stream Bool → ℕ → (f : Formula) → Setting f → Type 0
Back ρ n f v = (m : ℕ) → n ≡ suc m → Matches ρ m f v

unshifted : (ρ : Stream Bool) (n : ℕ) (f : Formula) (b : Bool) → Tells (Sat ρ (formula_at 0 f) n) b → Tells (Sat ρ f n) b
unshifted ρ n f b t = subst (λ g. Tells (Sat ρ g n) b) (formula_at_zero f) t

previous_tells : (ρ : Stream Bool) (n : ℕ) (c : Open) → Known ρ n c → (I : Interval) (f : Formula) (v : Setting f) → Back ρ n f v →
    Tells (Sat ρ (previous I f) n) (fitting plainly I (gap_at ρ n) (c f 0 v))
previous_tells ρ zero c known I f v back = tells_no (λ a. a)
previous_tells ρ (suc m) c known I f v back =
    let gone = ρ.stamp (suc m) - ρ.stamp m in
    tells_cond (within I gone) (c f 0 v) (tells_in I gone) (unshifted ρ m f (c f 0 v) (known m refl f 0 v (back m refl) (omega arith)))

since_tells : (ρ : Stream Bool) (n : ℕ) (c : Open) → Known ρ n c → (I : Interval) (f g : Formula) (v : Setting f) (w : Setting g) (s : ℕ) (a b : Bool) →
    Back ρ n f v → Back ρ n g w → s ≤ last_shift I → Tells (Sat ρ f n) a → Tells (Sat ρ g n) b →
    Tells (Sat ρ (since (at_shift s I) f g) n) (stepped plainly I s a b (across plainly I s (gap_at ρ n) (λ m. c (since I f g) m (v, w))))
since_tells ρ zero c known I f g v w s a b bf bg h ta tb =
    let first = since_first ρ I (Sat ρ f) (Sat ρ g) s h in
    let none : Tells ⊥ false = tells_no (λ x. x) in
    tells_iff ((λ x n. first.0 x (n.0, λ y. y)), (λ o. first.1 (λ n. o (n.0, λ y. y.1)))) (tells_stepped I s a b false ta tb none)
since_tells ρ (suc m) c known I f g v w s a b bf bg h ta tb =
    let before : ℕ → Bool = λ k. c (since I f g) k (v, w) in
    let z = moved I s (ρ.stamp (suc m) - ρ.stamp m) in
    tells_iff (since_step ρ I (Sat ρ f) (Sat ρ g) s h m)
    (tells_stepped I s a b (at_shift_or before false z) ta tb
    (tells_at z (λ k e. known m refl (since I f g) k (v, w) (bf m refl, bg m refl) (moved_le I s (ρ.stamp (suc m) - ρ.stamp m) k e))))

until_tells : (ρ : Stream Bool) (n : ℕ) (I : Interval) (f g : Formula) (s : ℕ) (a b w : Bool) →
    s ≤ last_shift I → Tells (Sat ρ f n) a → Tells (Sat ρ g n) b → Tells (Awaits ρ n I f g s) w →
    Tells (Sat ρ (until (at_shift s I) f g) n) (stepped plainly I s a b w)
until_tells ρ n I f g s a b w h ta tb tw = tells_iff (until_step ρ I (Sat ρ f) (Sat ρ g) s h n) (tells_stepped I s a b w ta tb tw)

-- what a wait is carried to tells of it one point before
next_back : (ρ : Stream Bool) (n : ℕ) (I : Interval) (f : Formula) (a : Bool) → Tells (Sat ρ f n) a →
    (m : ℕ) → n ≡ suc m → Tells (Sat ρ (next I f) m) (fitting plainly I (gap_at ρ n) a)
next_back ρ zero I f a t m e = absurd (let c : ⊥ = omega arith in c)
next_back ρ (suc n) I f a t m e =
    let q : n ≡ m = omega arith in
    let gone = ρ.stamp (suc n) - ρ.stamp n in
    subst (λ i. Tells (Sat ρ (next I f) i) (cond (within I gone) a false)) q (tells_cond (within I gone) a (tells_in I gone) t)

until_back : (ρ : Stream Bool) (n : ℕ) (I : Interval) (f g : Formula) (now : ℕ → Bool) →
    ((s : ℕ) → s ≤ last_shift I → Tells (Sat ρ (until (at_shift s I) f g) n) (now s)) →
    (m : ℕ) → n ≡ suc m → (s : ℕ) → s ≤ last_shift I → Tells (Awaits ρ m I f g s) (only I (λ s. across plainly I s (gap_at ρ n) now) s)
until_back ρ zero I f g now t m e s h = absurd (let c : ⊥ = omega arith in c)
until_back ρ (suc n) I f g now t m e s h =
    let q : n ≡ m = omega arith in
    let gone = ρ.stamp (suc n) - ρ.stamp n in
    tells_only I (λ s. at_shift_or now false (moved I s gone)) s h
    (subst (λ i. Tells (Awaits ρ i I f g s) (at_shift_or now false (moved I s gone))) q (tells_at (moved I s gone) (λ k e. t k (moved_le I s gone k e))))

module _ (ρ : Stream Bool) (n : ℕ) (c : Open) (x : ℕ → Bool) (known : Known ρ n c) (here : (l : ℕ) → ρ.letters n l ≡ x l) where
  abbrev now : (f : Formula) → Setting f → Bool
  now f v = newest (gap_at ρ n) c x f 0 v

  abbrev old : (f : Formula) → Setting f → Setting f
  old f v = carry (gap_at ρ n) c x f v

  plain : (f : Formula) (v : Setting f) → Tells (Sat ρ (formula_at 0 f) n) (now f v) → Tells (Sat ρ f n) (now f v)
  plain f v t = unshifted ρ n f (now f v) t

  mutual
    unfolding newest

    tells : (f : Formula) (s : ℕ) (v : Setting f) → Matches ρ n f v → s ≤ last_of f → Tells (Sat ρ (formula_at s f) n) (newest (gap_at ρ n) c x f s v)
    tells truth s v m h = tells_yes tt
    tells (letter l) s v m h = ((λ e. sym (here l) ∙ e), (λ e. here l ∙ e))
    tells (negation f) s v m h = tells_not (now f v) (plain f v (tells f 0 v m (omega arith)))
    tells (conjunction f g) s v m h = tells_and (now f v.0) (now g v.1) (plain f v.0 (tells f 0 v.0 m.0 (omega arith))) (plain g v.1 (tells g 0 v.1 m.1 (omega arith)))
    tells (disjunction f g) s v m h = tells_or (now f v.0) (now g v.1) (plain f v.0 (tells f 0 v.0 m.0 (omega arith))) (plain g v.1 (tells g 0 v.1 m.1 (omega arith)))
    tells (previous I f) s v m h = previous_tells ρ n c known I f (old f v) (back f v m)
    tells (since I f g) s v m h =
        since_tells ρ n c known I f g (old f v.0) (old g v.1) s (now f v.0) (now g v.1) (back f v.0 m.0) (back g v.1 m.1) h
        (plain f v.0 (tells f 0 v.0 m.0 (omega arith))) (plain g v.1 (tells g 0 v.1 m.1 (omega arith)))
    tells (next I f) s v m h = m.0
    tells (until I f g) s v m h =
        until_tells ρ n I f g s (now f v.1) (now g v.2) (v.0 s) h (plain f v.1 (tells f 0 v.1 m.1 (omega arith))) (plain g v.2 (tells g 0 v.2 m.2 (omega arith))) (m.0 s h)

    back : (f : Formula) (v : Setting f) → Matches ρ n f v → Back ρ n f (carry (gap_at ρ n) c x f v)
    back truth v m = λ k e. tt
    back (letter l) v m = λ k e. tt
    back (negation f) v m = back f v m
    back (conjunction f g) v m = λ k e. (back f v.0 m.0 k e, back g v.1 m.1 k e)
    back (disjunction f g) v m = λ k e. (back f v.0 m.0 k e, back g v.1 m.1 k e)
    back (previous I f) v m = back f v m
    back (since I f g) v m = λ k e. (back f v.0 m.0 k e, back g v.1 m.1 k e)
    back (next I f) v m = λ k e. (next_back ρ n I f (now f v.1) (plain f v.1 (tells f 0 v.1 m.1 (omega arith))) k e, back f v.1 m.1 k e)
    back (until I f g) v m = λ k e. (
      until_back ρ n I f g (λ s. stepped plainly I s (now f v.1) (now g v.2) (v.0 s))
          (λ s h. until_tells ρ n I f g s (now f v.1) (now g v.2) (v.0 s) h (plain f v.1 (tells f 0 v.1 m.1 (omega arith))) (plain g v.2 (tells g 0 v.2 m.2 (omega arith))) (m.0 s h)) k e,
      back f v.1 m.1 k e,
      back g v.2 m.2 k e,
    )

-- the gap of the stream before the newest point
gap_same : (ρ : Stream Bool) (p : Accepted Bool) (ps : List (Accepted Bool)) → Begins ρ (p ∷ ps) → gap_at ρ (length ps) ≡ gap_to p ps
gap_same ρ p [] b = refl
gap_same ρ p (q ∷ ps) b = ap Some (rw (b.0, b.2.0))

-- from the point before to the newest
newest_from : (ρ : Stream Bool) (p : Accepted Bool) (ps : List (Accepted Bool)) → Begins ρ (p ∷ ps) → Known ρ (length ps) (condition ps) →
    TellsAt ρ (length ps) (condition (p ∷ ps))
unfolding condition
newest_from ρ p ps b known f s v m h =
    subst (λ g. Tells (Sat ρ (formula_at s f) (length ps)) (newest g (condition ps) p.letters f s v)) (gap_same ρ p ps b)
    (tells ρ (length ps) (condition ps) p.letters known b.1 f s v m h)

-- by induction over the accepted points
before : (ρ : Stream Bool) (p : Accepted Bool) (ps : List (Accepted Bool)) → Begins ρ (p ∷ ps) → Known ρ (length ps) (condition ps)
before ρ p [] b m e = absurd (let c : ⊥ = omega arith in c)
before ρ p (q ∷ ps) b m e =
    let i : length ps ≡ m = omega arith in
    subst (λ n. TellsAt ρ n (condition (q ∷ ps))) i (newest_from ρ q ps b.2 (before ρ q ps b.2))

pub sound_newest : SoundNewest
sound_newest ρ p ps f s v b m h = newest_from ρ p ps b (before ρ p ps b) f s v m h

-- a setting that matches after the newest point is carried to one that matches after the point before
carried_matches : (ρ : Stream Bool) (p q : Accepted Bool) (ps : List (Accepted Bool)) (f : Formula) (v : Setting f) → Begins ρ (p ∷ (q ∷ ps)) →
    Matches ρ (suc (length ps)) f v → Matches ρ (length ps) f (carried p (q ∷ ps) f v)
unfolding carried
carried_matches ρ p q ps f v b m =
    subst (λ g. Matches ρ (length ps) f (carry g (condition (q ∷ ps)) p.letters f v)) (gap_same ρ p (q ∷ ps) b)
    (back ρ (suc (length ps)) (condition (q ∷ ps)) p.letters (before ρ p (q ∷ ps) b) b.1 f v m (length ps) refl)

newest_tells : (ρ : Stream Bool) (p : Accepted Bool) (ps : List (Accepted Bool)) (i : ℕ) (f : Formula) (v : Setting f) → Begins ρ (p ∷ ps) →
    Matches ρ (length ps) f v → i ≡ length ps → Tells (Sat ρ f i) (condition (p ∷ ps) f 0 v)
newest_tells ρ p ps i f v b m e = rw e (unshifted ρ (length ps) f (condition (p ∷ ps) f 0 v) (sound_newest ρ p ps f 0 v b m (omega arith)))

pub sound : Sound
unfolding of_point
sound ρ p [] i f v b m le =
    cond_both (eqb i 0) (condition (p ∷ []) f 0 v) (of_point [] i f (carried p [] f v)) (λ b. Tells (Sat ρ f i) b)
    (λ e. newest_tells ρ p [] i f v b m (eqb-true i 0 e))
    (λ e. absurd (eqb-false i 0 e (omega arith)))
sound ρ p (q ∷ ps) i f v b m le =
    cond_both (eqb i (suc (length ps))) (condition (p ∷ (q ∷ ps)) f 0 v) (of_point (q ∷ ps) i f (carried p (q ∷ ps) f v)) (λ b. Tells (Sat ρ f i) b)
    (λ e. newest_tells ρ p (q ∷ ps) i f v b m (eqb-true i (suc (length ps)) e))
    (λ e. sound ρ q ps i f (carried p (q ∷ ps) f v) b.2 (carried_matches ρ p q ps f v b m)
    (let ne : i ≡ suc (length ps) → ⊥ = eqb-false i (suc (length ps)) e in omega arith))
