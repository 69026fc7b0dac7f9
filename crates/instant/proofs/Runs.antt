-- Over a run the shelf has the values that the published logic gives.
use Rattle.std.proofs.Common.{◌≡◌, ℕ, zero, suc, ◌+◌, ◌-◌, ◌*◌, ◌<◌, ◌≤◌, Bool, true, false, cond, List, [], ◌∷◌, ◌++◌, length, get_or, take, Some, None, Ok, Option, sym, refl, ap, ◌∙◌, subst, ap₂, arith}
use Rattle.std.specs.Option.{option_map}
use Rattle.std.proofs.lemmas.List.{length-append, get_or_append_left, get_or-take}
use Rattle.std.proofs.lemmas.Bool.Decides.{nat_tests}
use Rattle.truth.specs.Laws.{Ops, Laws}
use Rattle.truth.specs.Plain.{plainly}
use Rattle.rule.specs.declared.interval.Interval.{Interval}
use Rattle.rule.specs.declared.record.Record.{Record}
use Rattle.rule.specs.declared.record.Record.TheVariants.{True, Letter, Not, And, Or, Previous, Since, Next, Until}
use Rattle.rule.specs.Intervals.{within, moved, last_shift, at_shift}
use Rattle.rule.specs.Components.{shifts, first_component, components, earlier, looks_ahead, any_ahead}
use Rattle.rule.specs.Records.{allowed, Sound}
use Rattle.rule.proofs.Numbering.{shifts_some, first_room, first_lt, left_earlier, right_earlier, moved_le}
use Rattle.logic.specs.Logic.{Formula, previous, since, Stream, Accepted, Past, Sat, Tells, formula_at}
use Rattle.logic.specs.Values.{at_shift_or, stepped, value}
use Rattle.logic.specs.Tables.{built, formula, rule}
use Rattle.logic.proofs.Shifts.{formula_at_zero}
use Rattle.logic.proofs.Witness.{since_step_zero, since_step_suc}
use Rattle.logic.proofs.Formulas.{formula_built, sound_earlier}
use Rattle.logic.proofs.Plain.{plain_tells}
use Rattle.instant.specs.Step.{before, valued, newest, values_at, kept, is_first, advanced, shelf_after, ruled}
use Rattle.instant.specs.Answers.{step_answer}
use Rattle.instant.specs.Runs.{taken, Run, fitted, further, Witnessed, RunsWitnessed, Judged, Says}
use Rattle.feed.proofs.Onto.{getD_onto}
use Rattle.instant.proofs.Kept.{length_kept}
use Rattle.instant.proofs.Values.{length_newest, newest_at}

-- a record of a table without future operators is none
pub none_ahead : (rs : List Record) (j : ℕ) → any_ahead rs ≡ false → looks_ahead (get_or rs j True) ≡ false
none_ahead [] j h = refl
none_ahead (r ∷ rs) zero h = grind (arith, nat_tests)
none_ahead (r ∷ rs) (suc j) h = none_ahead rs j (grind (arith, nat_tests))

module _ {T : Type 0} (k : Ops T) (laws : Laws k) (rs : List Record) (sound : Sound rs) (past : any_ahead rs ≡ false) (ρ : Stream T) where
  -- a list of values has those of all components at point i
  abbrev Has : List T → ℕ → Type 0
  Has vs i = (j s : ℕ) → j < length rs → s < shifts (get_or rs j True) → get_or vs (first_component rs j + s) k.never ≡ value k ρ (formula_at s (formula rs j)) i

  -- the values at the point before point i, and the gap to it, if there is one
  abbrev Prior : Option ℕ → List T → ℕ → Type 0
  Prior None bs zero = Unit {0}
  Prior None bs (suc i) = ⊥
  Prior (Some g) bs zero = ⊥
  Prior (Some g) bs (suc i) = (g ≡ ρ.stamp (suc i) - ρ.stamp i) × Has bs i

  module _ (bs : List T) where
    before_previous : (i : ℕ) (I : Interval) (a : ℕ) → a < length rs → Has bs i → (b : Bool)
        → before k bs (cond b (Some (first_component rs a)) None) ≡ cond b (value k ρ (formula rs a) i) k.never
    before_previous i I a l h true =
        let z : first_component rs a ≡ first_component rs a + 0 = omega arith in
        ap (λ n. get_or bs n k.never) z ∙ h a 0 l (shifts_some (get_or rs a True)) ∙ ap (λ f. value k ρ f i) (formula_at_zero (formula rs a))
    before_previous i I a l h false = refl

    before_since : (i j : ℕ) (I : Interval) (f g : Formula) → j < length rs → formula rs j ≡ since I f g → shifts (get_or rs j True) ≡ last_shift I + 1 → Has bs i
        → (o : Option ℕ) → ((m : ℕ) → o ≡ Some m → m ≤ last_shift I)
        → before k bs (option_map (λ t. first_component rs j + t) o) ≡ at_shift_or (λ m. value k ρ (since (at_shift m I) f g) i) k.never o
    before_since i j I f g l e w h None few = refl
    before_since i j I f g l e w h (Some m) few =
        let le = few m refl in
        h j m l (omega arith) ∙ ap (λ x. value k ρ (formula_at m x) i) e

  -- one record, from the values of its arguments
  module _ (ls : List T) (g : Option ℕ) (bs : List T) (i : ℕ) (letters : (l : ℕ) → ρ.letters i l ≡ get_or ls l k.never) (prior : Prior g bs i) (N : List T) (j : ℕ) (lt : j < length rs)
      (args : (a : ℕ) → a < j → get_or N (first_component rs a) k.never ≡ value k ρ (formula rs a) i) where
    previous_value : (I : Interval) (a : ℕ) → a < j → (g : Option ℕ) (i : ℕ) → Prior g bs i → (s : ℕ)
        → before k bs (earlier rs (Previous I a) (first_component rs j) s g) ≡ value k ρ (previous I (formula rs a)) i
    previous_value I a l None zero p s = refl
    previous_value I a l None (suc i) p s = absurd p
    previous_value I a l (Some g) zero p s = absurd p
    previous_value I a l (Some g) (suc i) p s =
        before_previous bs i I a (omega arith) p.1 (within I g) ∙ ap (λ d. cond (within I d) (value k ρ (formula rs a) i) k.never) p.0

    since_value : (I : Interval) (a b : ℕ) → get_or rs j True ≡ Since I a b → formula rs j ≡ since I (formula rs a) (formula rs b)
        → (g : Option ℕ) (i : ℕ) → Prior g bs i → (s : ℕ) → s ≤ last_shift I
        → stepped k I s (value k ρ (formula rs a) i) (value k ρ (formula rs b) i) (before k bs (earlier rs (Since I a b) (first_component rs j) s g))
        ≡ value k ρ (since (at_shift s I) (formula rs a) (formula rs b)) i
    since_value I a b q e None zero p s l = sym (since_step_zero k laws ρ I (formula rs a) (formula rs b) s l)
    since_value I a b q e None (suc i) p s l = absurd p
    since_value I a b q e (Some g) zero p s l = absurd p
    since_value I a b q e (Some g) (suc i) p s l =
        let fa = formula rs a in let fb = formula rs b in
        ap (stepped k I s (value k ρ fa (suc i)) (value k ρ fb (suc i)))
        (before_since bs i j I fa fb lt e (ap shifts q) p.1 (moved I s g) (λ m x. moved_le I s g m x)
        ∙ ap (λ d. at_shift_or (λ m. value k ρ (since (at_shift m I) fa fb) i) k.never (moved I s d)) p.0)
        ∙ sym (since_step_suc k laws ρ I fa fb s l i)

    by_record : (r : Record) → get_or rs j True ≡ r → looks_ahead r ≡ false → formula rs j ≡ built (formula rs) r → allowed j r ≡ true → (s : ℕ) → s < shifts r
        → valued k rs ls g N bs r (first_component rs j) s ≡ value k ρ (formula_at s (built (formula rs) r)) i
    by_record True q p e h s l = refl
    by_record (Letter x) q p e h s l = sym (letters x)
    by_record (Not a) q p e h s l = ap k.not (args a (left_earlier j a (Not a) h refl))
    by_record (And a b) q p e h s l = ap₂ k.both (args a (left_earlier j a (And a b) h refl)) (args b (right_earlier j b (And a b) h refl))
    by_record (Or a b) q p e h s l = ap₂ k.either (args a (left_earlier j a (Or a b) h refl)) (args b (right_earlier j b (Or a b) h refl))
    by_record (Previous I a) q p e h s l = previous_value I a (left_earlier j a (Previous I a) h refl) g i prior s
    by_record (Since I a b) q p e h s l =
        ap₂ (λ x y. stepped k I s x y (before k bs (earlier rs (Since I a b) (first_component rs j) s g)))
        (args a (left_earlier j a (Since I a b) h refl)) (args b (right_earlier j b (Since I a b) h refl))
        ∙ since_value I a b q e g i prior s (omega arith)
    by_record (Next I a) q p e h s l = cc
    by_record (Until I a b) q p e h s l = cc

  -- all records, from the values of those before
  module _ (ls : List T) (g : Option ℕ) (bs : List T) (i : ℕ) (letters : (l : ℕ) → ρ.letters i l ≡ get_or ls l k.never) (prior : Prior g bs i) where
    has_below : (n j s : ℕ) → j < n → j < length rs → s < shifts (get_or rs j True)
        → get_or (newest k rs ls g bs) (first_component rs j + s) k.never ≡ value k ρ (formula_at s (formula rs j)) i
    has_below zero j s b h l = absurd (omega arith)
    has_below (suc n) j s b h l =
        let N = newest k rs ls g bs in
        let e = formula_built rs j (sound_earlier rs sound) h in
        let args : (a : ℕ) → a < j → get_or N (first_component rs a) k.never ≡ value k ρ (formula rs a) i = λ a u.
        let z : first_component rs a ≡ first_component rs a + 0 = omega arith in
        ap (λ m. get_or N m k.never) z ∙ has_below n a 0 (omega arith) (omega arith) (shifts_some (get_or rs a True)) ∙ ap (λ f. value k ρ f i) (formula_at_zero (formula rs a)) in
        newest_at k rs ls g bs sound j s h l
        ∙ by_record ls g bs i letters prior N j h args (get_or rs j True) refl (none_ahead rs j past) e (sound j h) s l
        ∙ ap (λ f. value k ρ (formula_at s f) i) (sym e)

    has_newest : Has (newest k rs ls g bs) i
    has_newest j s h l = has_below (suc j) j s (omega arith) h l

-- what a step leaves at the front of a shelf that is long enough
module _ {T : Type 0} (k : Ops T) (rs : List Record) (g : Option ℕ) (ls S : List T) (room : 2 * components rs ≤ length S) where
  abbrev behind : List T
  behind = kept k (is_first g) (components rs) S

  length_both : length (values_at k rs g ls S ++ behind) ≡ 2 * components rs
  length_both =
      length-append (values_at k rs g ls S) behind
      ∙ omega (arith, length_newest k rs ls g behind, length_kept k (is_first g) (components rs) S (omega arith))

  pub advanced_at : (c : ℕ) → c < components rs → get_or (advanced k rs g ls S) c k.never ≡ get_or (values_at k rs g ls S) c k.never
  advanced_at c h =
      getD_onto (values_at k rs g ls S ++ behind) S c k.never (omega (arith, length_both))
      ∙ get_or_append_left (values_at k rs g ls S) behind k.never c (omega (arith, length_newest k rs ls g behind))

-- a good step had a shelf that is long enough
pub good_room : (n : ℕ) (p : Option ℕ) (t given shelf : ℕ) → step_answer n p t given shelf ≡ Ok tt → 2 * n ≤ shelf
good_room n p t given shelf e = grind (arith, nat_tests)

module _ {T : Type 0} (k : Ops T) (laws : Laws k) (rs : List Record) (sound : Sound rs) (past : any_ahead rs ≡ false) where
  place_lt : (j s : ℕ) → j < length rs → s < shifts (get_or rs j True) → first_component rs j + s < components rs
  place_lt j s h l = omega (arith, first_room rs j h)

  -- by induction over the steps
  run_witnessed : {ps : List (Accepted T)} {p : Option ℕ} {S : List T} → Run k rs ps p S → (t : ℕ) (ls : List T)
      → step_answer (components rs) p t (length ls) (length S) ≡ Ok tt → Witnessed k rs (taken k t ls) ps (shelf_after k rs p t ls S)
  run_witnessed (fitted S) t ls ok ρ b j s h l =
      let room = good_room (components rs) None t (length ls) (length S) ok in
      advanced_at k rs None ls S room (first_component rs j + s) (place_lt j s h l)
      ∙ has_newest k laws rs sound past ρ ls None (kept k true (components rs) S) 0 b.1 tt j s h l
  run_witnessed (further {ps} {p} {S} run t' ls' ok') t ls ok ρ b j s h l =
      let R = shelf_after k rs p t' ls' S in
      let C = components rs in
      let g = t - t' in
      let room = good_room C (Some t') t (length ls) (length R) ok in
      let ih = run_witnessed run t' ls' ok' ρ b.2 in
      let before-has : Has k laws rs sound past ρ (take C R) (length ps) = λ j s h l.
      get_or-take C R (first_component rs j + s) k.never (place_lt j s h l) ∙ ih j s h l in
      let gaps : g ≡ ρ.stamp (suc (length ps)) - ρ.stamp (length ps) = ap₂ (λ x y. x - y) (sym b.0) (sym b.2.0) in
      advanced_at k rs (Some g) ls R room (first_component rs j + s) (place_lt j s h l)
      ∙ has_newest k laws rs sound past ρ ls (Some g) (take C R) (suc (length ps)) b.1 (gaps, before-has) j s h l

  pub runs_from : (p : Accepted T) (ps : List (Accepted T)) (n : Option ℕ) (S : List T) → Run k rs (p ∷ ps) n S → Witnessed k rs p ps S
  runs_from p ps n S (further run t ls ok) = run_witnessed run t ls ok

pub runs_witnessed : {T : Type 0} (k : Ops T) → Laws k → RunsWitnessed k
runs_witnessed k laws rs sound past = runs_from k laws rs sound past

-- one step more of a run, by what it answered and left
module _ {T : Type 0} (k : Ops T) (laws : Laws k) (rs : List Record) (sound : Sound rs) (past : any_ahead rs ≡ false) (some : 0 < length rs)
    (p : Option ℕ) (t : ℕ) (ls S R : List T) (ok : step_answer (components rs) p t (length ls) (length S) ≡ Ok tt) (after : R ≡ shelf_after k rs p t ls S)
    (ps : List (Accepted T)) (run : Run k rs ps p S) where
  pub run_more : Run k rs (taken k t ls ∷ ps) (Some t) R
  run_more = subst (λ X. Run k rs (taken k t ls ∷ ps) (Some t) X) (sym after) (further run t ls ok)

  pub more_witnessed : Witnessed k rs (taken k t ls) ps R
  more_witnessed = runs_from k laws rs sound past (taken k t ls) ps (Some t) R run_more

  pub more_judged : (x : T) → x ≡ ruled k rs R → Judged k rs (taken k t ls) ps x
  more_judged x e ρ b =
      let j = length rs - 1 in
      let z : first_component rs j ≡ first_component rs j + 0 = omega arith in
      e ∙ ap (λ n. get_or R n k.never) z ∙ more_witnessed ρ b j 0 (omega arith) (shifts_some (get_or rs j True))
      ∙ ap (λ f. value k ρ f (length ps)) (formula_at_zero (formula rs j))

-- the rule's value on the shelf is the one among the newest values
pub ruled_after : {T : Type 0} (k : Ops T) (rs : List Record) (g : Option ℕ) (ls S : List T) → 0 < length rs → 2 * components rs ≤ length S
    → ruled k rs (advanced k rs g ls S) ≡ ruled k rs (values_at k rs g ls S)
ruled_after k rs g ls S some room = advanced_at k rs g ls S room (first_component rs (length rs - 1)) (first_lt rs (length rs - 1) (omega arith))

-- the formulas of a table without future operators have none
module _ (rs : List Record) (sound : Sound rs) (ahead : any_ahead rs ≡ false) where
  past_record : (j : ℕ) (r : Record) → looks_ahead r ≡ false → allowed j r ≡ true → ((a : ℕ) → a < j → Past (formula rs a)) → Past (built (formula rs) r)
  past_record j True p h args = tt
  past_record j (Letter l) p h args = tt
  past_record j (Not a) p h args = args a (left_earlier j a (Not a) h refl)
  past_record j (And a b) p h args = (args a (left_earlier j a (And a b) h refl), args b (right_earlier j b (And a b) h refl))
  past_record j (Or a b) p h args = (args a (left_earlier j a (Or a b) h refl), args b (right_earlier j b (Or a b) h refl))
  past_record j (Previous I a) p h args = args a (left_earlier j a (Previous I a) h refl)
  past_record j (Since I a b) p h args = (args a (left_earlier j a (Since I a b) h refl), args b (right_earlier j b (Since I a b) h refl))
  past_record j (Next I a) p h args = cc
  past_record j (Until I a b) p h args = cc

  past_below : (n j : ℕ) → j < n → j < length rs → Past (formula rs j)
  past_below zero j b h = absurd (omega arith)
  past_below (suc n) j b h =
      subst Past (sym (formula_built rs j (sound_earlier rs sound) h))
      (past_record j (get_or rs j True) (none_ahead rs j ahead) (sound j h) (λ a l. past_below n a (omega arith) (omega arith)))

  -- the rule's plain value says whether it is true
  pub says_judged : (p : Accepted Bool) (ps : List (Accepted Bool)) (x : Bool) → 0 < length rs → Judged plainly rs p ps x → Says rs p ps x
  says_judged p ps x some judged ρ b =
      let told = plain_tells ρ (rule rs) (past_below (length rs) (length rs - 1) (omega arith) (omega arith)) (length ps) in
      subst (Tells (Sat ρ (rule rs) (length ps))) (sym (judged ρ b)) told
