-- Conditions are carried by replacing the numbered waits, and go record by record.
use Rattle.std.proofs.Common.{◌≡◌, ℕ, zero, suc, ◌+◌, ◌-◌, ◌<◌, ◌≤◌, Bool, eqb, List, ◌∷◌, length, sym, refl, ap, ◌∙◌, arith}
use mathlib.Core.Path.{fun_ext}
use Rattle.std.proofs.lemmas.Bool.{cond-true, cond-false, eq-eqb, ne_eqb, le-leb}
use Rattle.truth.specs.Plain.{plainly}
use Rattle.rule.specs.declared.record.Record.{Record}
use Rattle.rule.specs.declared.record.Record.TheVariants.{True, Letter, Not, And, Or, Previous, Since, Next, Until}
use Rattle.rule.specs.Intervals.{last_shift}
use Rattle.rule.specs.Components.{shifts, own_waits, first_wait}
use Rattle.logic.specs.Logic.{Accepted, since}
use Rattle.logic.specs.Values.{stepped}
use Rattle.logic.specs.Steps.{fitting, across, step, renewed}
use Rattle.logic.specs.Tables.{row, formulas, rule, Below, Earlier}
use Rattle.logic.specs.Conditions.{gap_to, newest, carry, condition, carried, of_point}
use Rattle.logic.specs.Waits.{settings, setting, component, replaced, ComponentStep, NewestTable, CarriedTable}
use Rattle.logic.proofs.Places.{owner_at}
use Rattle.logic.proofs.Locality.{only_same}
use Rattle.logic.proofs.Formulas.{Entry, build, entry, entry_cases, entry_last, entry_stays, entry_built}

-- the replaced waits of record j
pub replaced_at : (rs : List Record) (p : Accepted Bool) (ps : List (Accepted Bool)) (v : ℕ → Bool) (j s : ℕ) → j < length rs → s < own_waits (row rs j) →
    replaced rs p ps v (first_wait rs j + s) ≡ renewed plainly (row rs j) (gap_to p ps) (λ a m. component rs (p ∷ ps) a m v) j s
unfolding replaced
replaced_at rs p ps v j s lt h =
    let now : ℕ → ℕ → Bool = λ a m. component rs (p ∷ ps) a m v in
    let w = first_wait rs j + s in
    let e : first_wait rs j + s - first_wait rs j ≡ s = omega arith in
    ap (λ k. renewed plainly (row rs k) (gap_to p ps) now k (w - first_wait rs k)) (owner_at rs j s lt h)
    ∙ ap (renewed plainly (row rs j) (gap_to p ps) now j) e

module _ (p : Accepted Bool) (ps : List (Accepted Bool)) where
  build_carried : (r : Record) (base j : ℕ) (e : ℕ → Entry) (now : ℕ → ℕ → Bool) (v u : ℕ → Bool) →
      Below j r → ((a : ℕ) → a < j → now a 0 ≡ condition (p ∷ ps) (e a).formula 0 ((e a).setting v)) →
      ((m : ℕ) → now j m ≡ condition (p ∷ ps) (build r base e).formula m ((build r base e).setting v)) →
      ((a : ℕ) → (e a).setting u ≡ carried p ps (e a).formula ((e a).setting v)) →
      ((s : ℕ) → s < own_waits r → u (base + s) ≡ renewed plainly r (gap_to p ps) now j s) →
      (build r base e).setting u ≡ carried p ps (build r base e).formula ((build r base e).setting v)
  unfolding carried carry newest condition
  build_carried True base j e now v u h args here same own = refl
  build_carried (Letter l) base j e now v u h args here same own = refl
  build_carried (Not a) base j e now v u h args here same own = same a
  build_carried (And a b) base j e now v u h args here same own = λ i. (same a i, same b i)
  build_carried (Or a b) base j e now v u h args here same own = λ i. (same a i, same b i)
  build_carried (Previous I a) base j e now v u h args here same own = same a
  build_carried (Since I a b) base j e now v u h args here same own = λ i. (same a i, same b i)
  build_carried (Next I a) base j e now v u h args here same own =
      let z : base ≡ base + 0 = omega arith in
      let q : u base ≡ fitting plainly I (gap_to p ps) (condition (p ∷ ps) (e a).formula 0 ((e a).setting v)) =
      ap u z ∙ own 0 (omega arith) ∙ ap (fitting plainly I (gap_to p ps)) (args a h) in
      λ i. (q i, same a i)
  build_carried (Until I a b) base j e now v u h args here same own =
      let f = (build (Until I a b) base e).formula in
      let x = (build (Until I a b) base e).setting v in
      let all : now j ≡ (λ m. condition (p ∷ ps) f m x) = fun_ext here in
      let q = only_same I (λ s. u (base + s)) (λ s. across plainly I s (gap_to p ps) (λ m. condition (p ∷ ps) f m x))
      (λ s le. own s (omega arith) ∙ ap (across plainly I s (gap_to p ps)) all) in
      λ i. (q i, same a i, same b i)

  module _ (rs : List Record) (earlier : Earlier rs) (v : ℕ → Bool) where
    setting_carried : (u : ℕ → Bool) → ((w : ℕ) → u w ≡ replaced rs p ps v w) →
        (n : ℕ) → n ≤ length rs → (j : ℕ) → (entry rs n j).setting u ≡ carried p ps (entry rs n j).formula ((entry rs n j).setting v)
    unfolding formulas settings
    setting_carried u h zero le j = unfold carried carry in refl
    setting_carried u h (suc n) le j =
        let at : Entry → ℕ → Bool = λ e m. condition (p ∷ ps) e.formula m (e.setting v) in
        let old = setting_carried u h n (omega arith) in
        entry_cases rs (λ e. e.setting u ≡ carried p ps e.formula (e.setting v)) n j
        (build_carried (row rs n) (first_wait rs n) n (entry rs n) (λ a m. component rs (p ∷ ps) a m v) v u (earlier n le)
        (λ a lt. ap (λ e. at e 0) (entry_stays rs n (length rs) a (omega arith) lt))
        (λ m. ap (λ e. at e m) (entry_stays rs (suc n) (length rs) n le (omega arith) ∙ entry_last rs n))
        old
        (λ s lt. h (first_wait rs n + s) ∙ replaced_at rs p ps v n s le lt))
        (old j)

pub newest_table : NewestTable
unfolding of_point
newest_table rs p ps v =
    cond-true (eqb (length ps) (length ps)) (condition (p ∷ ps) (rule rs) 0 (setting rs (length rs - 1) v))
    (of_point ps (length ps) (rule rs) (carried p ps (rule rs) (setting rs (length rs - 1) v))) (eq-eqb (length ps) (length ps) refl)

pub carried_table : CarriedTable
unfolding of_point
carried_table rs earlier p ps i v lt =
    let last = length rs - 1 in
    cond-false (eqb i (length ps)) (condition (p ∷ ps) (rule rs) 0 (setting rs last v)) (of_point ps i (rule rs) (carried p ps (rule rs) (setting rs last v)))
    (ne_eqb i (length ps) (λ e. let c : ⊥ = omega arith in c))
    ∙ ap (of_point ps i (rule rs)) (sym (setting_carried p ps rs earlier v (replaced rs p ps v) (λ w. refl) (length rs) (omega arith) last))

-- one record, over the entries of the others
built_step : (r : Record) (base j s : ℕ) (e : ℕ → Entry) (p : Accepted Bool) (ps : List (Accepted Bool)) (v u : ℕ → Bool) → s < shifts r →
    ((a : ℕ) → (e a).setting u ≡ carried p ps (e a).formula ((e a).setting v)) → e j ≡ build r base e →
    condition (p ∷ ps) (build r base e).formula s ((build r base e).setting v) ≡
    step plainly r (gap_to p ps) p.letters (λ a. condition (p ∷ ps) (e a).formula 0 ((e a).setting v)) (λ a m. condition ps (e a).formula m ((e a).setting u)) j s (λ m. v (base + m))
unfolding condition newest carried carry
built_step True base j s e p ps v u h c q = refl
built_step (Letter l) base j s e p ps v u h c q = refl
built_step (Not a) base j s e p ps v u h c q = refl
built_step (And a b) base j s e p ps v u h c q = refl
built_step (Or a b) base j s e p ps v u h c q = refl
built_step (Previous I a) base j s e p ps v u h c q = ap (λ w. fitting plainly I (gap_to p ps) (condition ps (e a).formula 0 w)) (sym (c a))
built_step (Since I a b) base j s e p ps v u h c q =
    let now : ℕ → Bool = λ a. condition (p ∷ ps) (e a).formula 0 ((e a).setting v) in
    let x = sym (c a) in let y = sym (c b) in let z = sym q in
    let there : (λ m. condition ps (since I (e a).formula (e b).formula) m (carried p ps (e a).formula ((e a).setting v), carried p ps (e b).formula ((e b).setting v)))
    ≡ (λ m. condition ps (e j).formula m ((e j).setting u)) =
    (λ i m. condition ps (since I (e a).formula (e b).formula) m (x i, y i)) ∙ (λ i m. condition ps (z i).formula m ((z i).setting u)) in
    ap (λ f. stepped plainly I s (now a) (now b) (across plainly I s (gap_to p ps) f)) there
built_step (Next I a) base j s e p ps v u h c q = ap v (omega arith)
built_step (Until I a b) base j s e p ps v u h c q =
    let t = le-leb s (last_shift I) (omega arith) in
    ap (stepped plainly I s (condition (p ∷ ps) (e a).formula 0 ((e a).setting v)) (condition (p ∷ ps) (e b).formula 0 ((e b).setting v))) (rw t)

pub component_step : ComponentStep
component_step rs earlier p ps j s v lt h =
    let q = entry_built rs (length rs) j lt (earlier j lt) in
    ap (λ e. condition (p ∷ ps) e.formula s (e.setting v)) q
    ∙ built_step (row rs j) (first_wait rs j) j s (entry rs (length rs)) p ps v (replaced rs p ps v) h
    (setting_carried p ps rs earlier v (replaced rs p ps v) (λ w. refl) (length rs) (omega arith)) q
