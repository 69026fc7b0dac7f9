-- A condition looks only at the waits at or beneath its record.
use Rattle.std.proofs.Common.{◌≡◌, ℕ, zero, suc, ◌+◌, ◌-◌, ◌<◌, ◌≤◌, Bool, true, false, ◌&&◌, leb, List, length, sym, refl, ap, subst, arith}
use mathlib.Core.Path.{fun_ext}
use Rattle.std.proofs.lemmas.Bool.{leb-true}
use Rattle.rule.specs.declared.interval.Interval.{Interval}
use Rattle.rule.specs.declared.record.Record.{Record}
use Rattle.rule.specs.declared.record.Record.TheVariants.{True, Letter, Not, And, Or, Previous, Since, Next, Until}
use Rattle.rule.specs.Intervals.{last_shift}
use Rattle.rule.specs.Components.{own_waits, first_wait}
use Rattle.logic.specs.Tables.{row, formulas, rule}
use Rattle.logic.specs.Conditions.{only, condition, of_point}
use Rattle.logic.specs.Waits.{settings, LocalComponent, LocalTable}
use Rattle.logic.proofs.Places.{wait_more, waits_all}
use Rattle.logic.proofs.Formulas.{Entry, build, entry, entry_cases, entry_stays}

pub only_same : (I : Interval) (a b : ℕ → Bool) → ((s : ℕ) → s ≤ last_shift I → a s ≡ b s) → only I a ≡ only I b
only_same I a b h = fun_ext (λ s. go s (leb s (last_shift I)) refl)
  where
    go : (s : ℕ) (t : Bool) → leb s (last_shift I) ≡ t → (t && a s) ≡ (t && b s)
    go s true e = h s (leb-true s (last_shift I) e)
    go s false e = refl

build_local : (r : Record) (base : ℕ) (e : ℕ → Entry) (v u : ℕ → Bool) → ((a : ℕ) → (e a).setting v ≡ (e a).setting u) →
    ((s : ℕ) → s < own_waits r → v (base + s) ≡ u (base + s)) → (build r base e).setting v ≡ (build r base e).setting u
build_local True base e v u same own = refl
build_local (Letter l) base e v u same own = refl
build_local (Not a) base e v u same own = same a
build_local (And a b) base e v u same own = λ i. (same a i, same b i)
build_local (Or a b) base e v u same own = λ i. (same a i, same b i)
build_local (Previous I a) base e v u same own = same a
build_local (Since I a b) base e v u same own = λ i. (same a i, same b i)
build_local (Next I a) base e v u same own =
    let z : base + 0 ≡ base = omega arith in let q : v base ≡ u base = subst (λ w. v w ≡ u w) z (own 0 (omega arith)) in λ i. (q i, same a i)
build_local (Until I a b) base e v u same own =
    let q = only_same I (λ s. v (base + s)) (λ s. u (base + s)) (λ s h. own s (omega arith)) in λ i. (q i, same a i, same b i)

entry_local : (rs : List Record) (n : ℕ) (v u : ℕ → Bool) → ((w : ℕ) → w < first_wait rs n → v w ≡ u w) →
    (j : ℕ) → (entry rs n j).setting v ≡ (entry rs n j).setting u
unfolding formulas settings
entry_local rs zero v u h j = refl
entry_local rs (suc n) v u h j =
    let more = wait_more rs n in
    let old = entry_local rs n v u (λ w lt. h w (omega arith)) in
    entry_cases rs (λ e. e.setting v ≡ e.setting u) n j
    (build_local (row rs n) (first_wait rs n) (entry rs n) v u old (λ s lt. h (first_wait rs n + s) (omega arith))) (old j)

pub local_component : LocalComponent
local_component rs ps j s v u lt h =
    subst (λ x. condition ps x.formula s (x.setting v) ≡ condition ps x.formula s (x.setting u)) (sym (entry_stays rs (suc j) (length rs) j lt (omega arith)))
    (ap (condition ps (formulas rs (suc j) j) s) (entry_local rs (suc j) v u h j))

pub local_table : LocalTable
local_table rs ps i v u h =
    ap (of_point ps i (rule rs)) (entry_local rs (length rs) v u (λ w lt. h w (subst (λ n. w < n) (waits_all rs) lt)) (length rs - 1))
