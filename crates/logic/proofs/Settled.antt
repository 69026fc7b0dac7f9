-- A point older than the reach has a constant condition.
use Rattle.std.proofs.Common.{◌≡◌, ℕ, ◌+◌, ◌-◌, ◌≤◌, Bool, true, false, cond, not, ◌&&◌, ◌||◌, leb, List, [], ◌∷◌, length, Some, None, Option, refl, ap, subst, ap₂, arith}
use mathlib.Core.Path.{fun_ext}
use Rattle.std.proofs.lemmas.Bool.{leb-true, and_parts}
use Rattle.truth.specs.Plain.{plainly}
use Rattle.rule.specs.declared.interval.Interval.{Interval}
use Rattle.rule.specs.Intervals.{within, up_to, moved, moved_for, last_shift}
use Rattle.logic.specs.Logic.{Formula, Accepted}
use Rattle.logic.specs.Logic.{truth, letter, negation, conjunction, disjunction, previous, since, next, until}
use Rattle.logic.specs.Values.{at_shift_or, stepped}
use Rattle.logic.specs.Steps.{across}
use Rattle.logic.specs.Tables.{rule}
use Rattle.logic.specs.Conditions.{Setting, condition, carried, newest, carry}
use Rattle.logic.specs.Waits.{setting}
use Rattle.logic.specs.Verdicts.{Rising}
use Rattle.logic.specs.Reach.{larger, plus, reach, Over, stamp_of, Settles}
use Rattle.logic.proofs.Ahead.{ahead, latest, Climbs, climbs_latest, ahead_not, ahead_previous, ahead_and, ahead_or, ahead_since, ahead_next, ahead_left, ahead_right, via, split}

over_mono : (a : Option ℕ) (d e : ℕ) → d ≤ e → Over a d → Over a e
over_mono None d e le h = absurd h
over_mono (Some r) d e le h = omega arith

over_zero : (a : Option ℕ) → Over a 0 → ⊥
over_zero None h = h
over_zero (Some r) h = omega arith

over_left : (a b : Option ℕ) (d : ℕ) → Over (larger a b) d → Over a d
over_left None b d h = absurd h
over_left (Some a) None d h = absurd h
over_left (Some a) (Some b) d h = omega arith

over_right : (a b : Option ℕ) (d : ℕ) → Over (larger a b) d → Over b d
over_right None b d h = absurd h
over_right (Some a) None d h = absurd h
over_right (Some a) (Some b) d h = omega arith

-- past the rest of an interval at shift s, and then past a reach
abbrev Late : Option ℕ → ℕ → Option ℕ → ℕ → Type 0
Late None s a d = ⊥
Late (Some h) s a d = Over a (d - (h - s))

late_from : (h a : Option ℕ) (s d : ℕ) → Over (plus h a) d → Late h s a d
late_from None a s d o = absurd o
late_from (Some h) None s d o = absurd o
late_from (Some h) (Some r) s d o = omega arith

late_over : (h a : Option ℕ) (s d : ℕ) → Late h s a d → Over a d
late_over None a s d l = absurd l
late_over (Some h) a s d l = over_mono a (d - (h - s)) d (omega arith) l

abbrev Fixed : Formula → Type 0
Fixed f = (s : ℕ) (ls : List (Accepted Bool)) (q : Accepted Bool) (qs : List (Accepted Bool)) → Climbs q ls → Rising (q ∷ qs) → Over (reach f) (latest ls q - q.stamp) →
    (v u : Setting f) → condition (q ∷ qs) f s (ahead ls (q ∷ qs) f v) ≡ condition (q ∷ qs) f s (ahead ls (q ∷ qs) f u)

since_fixed : (I : Interval) (f g : Formula) → Fixed f → Fixed g → Fixed (since I f g)
unfolding condition newest ahead carried carry
since_fixed I f g ff fg s ls q [] c r o v u =
    via (ap (condition (q ∷ []) (since I f g) s) (ahead_since ls (q ∷ []) I f g v))
    (ap₂ (λ a b. stepped plainly I s a b false) (ff 0 ls q [] c r (over_left (reach f) (reach g) _ o) v.0 u.0) (fg 0 ls q [] c r (over_right (reach f) (reach g) _ o) v.1 u.1))
    (ap (condition (q ∷ []) (since I f g) s) (ahead_since ls (q ∷ []) I f g u))
since_fixed I f g ff fg s ls q (q' ∷ qs) c r o v u =
    let up = climbs_latest q ls c in
    let d = q.stamp - q'.stamp in
    let es = q ∷ (q' ∷ qs) in
    let old : (w : Setting (since I f g)) → ℕ → Bool = λ w m. condition (q' ∷ qs) (since I f g) m (ahead (q ∷ ls) (q' ∷ qs) (since I f g) w) in
    let ih : old v ≡ old u = fun_ext (λ m. since_fixed I f g ff fg m (q ∷ ls) q' qs (r.0, c) r.1 (over_mono (larger (reach f) (reach g)) _ _ (omega (arith, r.0)) o) v u) in
    let left : condition es f 0 (ahead ls es f v.0) ≡ condition es f 0 (ahead ls es f u.0) = ff 0 ls q (q' ∷ qs) c r (over_left (reach f) (reach g) _ o) v.0 u.0 in
    let right : condition es g 0 (ahead ls es g v.1) ≡ condition es g 0 (ahead ls es g u.1) = fg 0 ls q (q' ∷ qs) c r (over_right (reach f) (reach g) _ o) v.1 u.1 in
    let start : (w : Setting (since I f g)) → condition es (since I f g) s (ahead ls es (since I f g) w) ≡
    stepped plainly I s (condition es f 0 (ahead ls es f w.0)) (condition es g 0 (ahead ls es g w.1)) (across plainly I s (Some d) (old w)) = λ w.
    let e = ahead_since ls es I f g w in λ i. stepped plainly I s (condition es f 0 (e i).0) (condition es g 0 (e i).1) (across plainly I s (Some d) (old w)) in
    via (start v) (λ i. stepped plainly I s (left i) (right i) (across plainly I s (Some d) (ih i))) (start u)

previous_fixed : (I : Interval) (f : Formula) → Fixed f → Fixed (previous I f)
unfolding condition newest ahead carried carry
previous_fixed I f ff s ls q [] c r o v u = refl
previous_fixed I f ff s ls q (q' ∷ qs) c r o v u =
    let up = climbs_latest q ls c in
    let d = q.stamp - q'.stamp in
    let ih : condition (q' ∷ qs) f 0 (ahead (q ∷ ls) (q' ∷ qs) f v) ≡ condition (q' ∷ qs) f 0 (ahead (q ∷ ls) (q' ∷ qs) f u) =
    ff 0 (q ∷ ls) q' qs (r.0, c) r.1 (over_mono (reach f) _ _ (omega (arith, r.0)) o) v u in
    let start : (w : Setting f) → condition (q ∷ (q' ∷ qs)) (previous I f) s (ahead ls (q ∷ (q' ∷ qs)) (previous I f) w) ≡ cond (within I d) (condition (q' ∷ qs) f 0 (ahead (q ∷ ls) (q' ∷ qs) f w)) false = λ w.
    ap (λ x. cond (within I d) (condition (q' ∷ qs) f 0 (carried q (q' ∷ qs) f x)) false) (ahead_previous ls (q ∷ (q' ∷ qs)) I f w) in
    via (start v) (ap (λ b. cond (within I d) b false) ih) (start u)

-- a gap within the interval leaves what is past the reach behind
next_late : (h a : Option ℕ) (g d e : ℕ) → up_to h g ≡ true → e ≡ d - g → Over (plus h a) d → Over a e
next_late None a g d e t q o = absurd o
next_late (Some h) None g d e t q o = absurd o
next_late (Some h) (Some r) g d e t q o = let le = leb-true g h t in omega arith

next_fixed : (I : Interval) (f : Formula) → Fixed f → Fixed (next I f)
unfolding condition newest ahead carried carry
next_fixed I f ff s [] q qs c r o v u = absurd (over_zero (reach (next I f)) (subst (Over (reach (next I f))) (omega arith) o))
next_fixed I f ff s (p ∷ ls) q qs c r o v u =
    let up = climbs_latest p ls c.1 in
    let d = p.stamp - q.stamp in
    let es = p ∷ (q ∷ qs) in
    let start : (w : Setting (next I f)) → condition (q ∷ qs) (next I f) s (ahead (p ∷ ls) (q ∷ qs) (next I f) w) ≡ cond (within I d) (condition es f 0 (ahead ls es f w.1)) false = λ w.
    ap (λ x. cond (within I d) (condition es f 0 x) false) (ahead_next ls es I f w) in
    let rest : (b : Bool) → within I d ≡ b → cond b (condition es f 0 (ahead ls es f v.1)) false ≡ cond b (condition es f 0 (ahead ls es f u.1)) false = elim [
      | true ↦ λ t. ff 0 ls p (q ∷ qs) c.1 (c.0, r) (next_late I.high (reach f) d _ _ (and_parts (leb I.low d) (up_to I.high d) t).1 (omega (arith, c.0)) o) v.1 u.1
      | false ↦ λ t. refl
    ] in
    via (start v) (rest (within I d) refl) (start u)

-- the shift that a gap leads to is as late
late_moved : (h a : Option ℕ) (l s g d e : ℕ) → e ≡ d - g → Late h s a d →
    (c₁ c₂ : ℕ → Bool) → ((m : ℕ) → Late h m a e → c₁ m ≡ c₂ m) → at_shift_or c₁ false (moved_for h l (s + g)) ≡ at_shift_or c₂ false (moved_for h l (s + g))
late_moved None a l s g d e q o c₁ c₂ same = absurd o
late_moved (Some h) a l s g d e q o c₁ c₂ same = go (leb (s + g) h) refl
  where
    go : (b : Bool) → leb (s + g) h ≡ b → at_shift_or c₁ false (cond b (Some (s + g)) None) ≡ at_shift_or c₂ false (cond b (Some (s + g)) None)
    go true t = let le = leb-true (s + g) h t in same (s + g) (over_mono a (d - (h - s)) (e - (h - (s + g))) (omega arith) o)
    go false t = refl

until_fixed : (I : Interval) (f g : Formula) → Fixed f → Fixed g →
    (s : ℕ) (ls : List (Accepted Bool)) (q : Accepted Bool) (qs : List (Accepted Bool)) → Climbs q ls → Rising (q ∷ qs) → Late I.high s (larger (reach f) (reach g)) (latest ls q - q.stamp) →
    (v u : Setting (until I f g)) → condition (q ∷ qs) (until I f g) s (ahead ls (q ∷ qs) (until I f g) v) ≡ condition (q ∷ qs) (until I f g) s (ahead ls (q ∷ qs) (until I f g) u)
unfolding condition newest ahead carried carry
until_fixed I f g ff fg s [] q qs c r o v u =
    absurd (over_zero (larger (reach f) (reach g)) (subst (Over (larger (reach f) (reach g))) (omega arith) (late_over I.high (larger (reach f) (reach g)) s (q.stamp - q.stamp) o)))
until_fixed I f g ff fg s (p ∷ ls) q qs c r o v u =
    let up = climbs_latest p ls c.1 in
    let d = p.stamp - q.stamp in
    let es = p ∷ (q ∷ qs) in
    let past = late_over I.high (larger (reach f) (reach g)) s (latest ls p - q.stamp) o in
    let now : (w : Setting (until I f g)) → ℕ → Bool = λ w m. condition es (until I f g) m (ahead ls es (until I f g) w) in
    let wait : at_shift_or (now v) false (moved I s d) ≡ at_shift_or (now u) false (moved I s d) =
    late_moved I.high (larger (reach f) (reach g)) I.low s d (latest ls p - q.stamp) (latest ls p - p.stamp) (omega (arith, c.0)) o (now v) (now u)
    (λ m l. until_fixed I f g ff fg m ls p (q ∷ qs) c.1 (c.0, r) l v u) in
    let left : condition (q ∷ qs) f 0 (ahead (p ∷ ls) (q ∷ qs) f v.1) ≡ condition (q ∷ qs) f 0 (ahead (p ∷ ls) (q ∷ qs) f u.1) =
    ff 0 (p ∷ ls) q qs c r (over_left (reach f) (reach g) _ past) v.1 u.1 in
    let right : condition (q ∷ qs) g 0 (ahead (p ∷ ls) (q ∷ qs) g v.2) ≡ condition (q ∷ qs) g 0 (ahead (p ∷ ls) (q ∷ qs) g u.2) =
    fg 0 (p ∷ ls) q qs c r (over_right (reach f) (reach g) _ past) v.2 u.2 in
    let start : (w : Setting (until I f g)) → condition (q ∷ qs) (until I f g) s (ahead (p ∷ ls) (q ∷ qs) (until I f g) w) ≡
    stepped plainly I s (condition (q ∷ qs) f 0 (ahead (p ∷ ls) (q ∷ qs) f w.1)) (condition (q ∷ qs) g 0 (ahead (p ∷ ls) (q ∷ qs) g w.2)) (leb s (last_shift I) && at_shift_or (now w) false (moved I s d)) = λ w.
    let a = ahead_left (p ∷ ls) (q ∷ qs) I f g w in let b = ahead_right (p ∷ ls) (q ∷ qs) I f g w in
    λ i. stepped plainly I s (condition (q ∷ qs) f 0 (a i)) (condition (q ∷ qs) g 0 (b i)) (leb s (last_shift I) && at_shift_or (now w) false (moved I s d)) in
    via (start v) (λ i. stepped plainly I s (left i) (right i) (leb s (last_shift I) && wait i)) (start u)

pub fixed : (f : Formula) → Fixed f
unfolding condition newest
fixed truth s ls q qs c r o v u = refl
fixed (letter k) s ls q qs c r o v u = refl
fixed (negation f) s ls q qs c r o v u =
    via (ap (condition (q ∷ qs) (negation f) s) (ahead_not ls (q ∷ qs) f v)) (ap not (fixed f 0 ls q qs c r o v u)) (ap (condition (q ∷ qs) (negation f) s) (ahead_not ls (q ∷ qs) f u))
fixed (conjunction f g) s ls q qs c r o v u =
    via (ap (condition (q ∷ qs) (conjunction f g) s) (ahead_and ls (q ∷ qs) f g v))
    (ap₂ ◌&&◌ (fixed f 0 ls q qs c r (over_left (reach f) (reach g) _ o) v.0 u.0) (fixed g 0 ls q qs c r (over_right (reach f) (reach g) _ o) v.1 u.1))
    (ap (condition (q ∷ qs) (conjunction f g) s) (ahead_and ls (q ∷ qs) f g u))
fixed (disjunction f g) s ls q qs c r o v u =
    via (ap (condition (q ∷ qs) (disjunction f g) s) (ahead_or ls (q ∷ qs) f g v))
    (ap₂ ◌||◌ (fixed f 0 ls q qs c r (over_left (reach f) (reach g) _ o) v.0 u.0) (fixed g 0 ls q qs c r (over_right (reach f) (reach g) _ o) v.1 u.1))
    (ap (condition (q ∷ qs) (disjunction f g) s) (ahead_or ls (q ∷ qs) f g u))
fixed (previous I f) s ls q qs c r o v u = previous_fixed I f (fixed f) s ls q qs c r o v u
fixed (since I f g) s ls q qs c r o v u = since_fixed I f g (fixed f) (fixed g) s ls q qs c r o v u
fixed (next I f) s ls q qs c r o v u = next_fixed I f (fixed f) s ls q qs c r o v u
fixed (until I f g) s ls q qs c r o v u =
    until_fixed I f g (fixed f) (fixed g) s ls q qs c r (late_from I.high (larger (reach f) (reach g)) s (latest ls q - q.stamp) o) v u

pub settles : Settles
unfolding ahead
settles rs p ps i r le o v u =
    let x = split [] p ps i r tt le in
    let f = rule rs in
    let V = setting rs (length rs - 1) v in
    let U = setting rs (length rs - 1) u in
    via (x.same f V)
    (fixed f 0 x.later x.here x.before x.climbs x.rising (subst (Over (reach f)) (let e : p.stamp - stamp_of (p ∷ ps) i ≡ latest x.later x.here - x.here.stamp = cc (x.stamp_is, x.last_is) in e) o) V U)
    (x.same f U)
