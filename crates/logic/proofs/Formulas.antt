-- The formula and the setting of each record are built from those of its arguments.
use Rattle.std.proofs.Common.{◌≡◌, ℕ, zero, suc, ◌+◌, ◌-◌, ◌<◌, ◌≤◌, Bool, true, false, cond, eqb, List, length, sym, refl, ap, ◌∙◌, subst, arith}
use Rattle.std.proofs.lemmas.Bool.{eq-eqb, ne_eqb, cond-true, cond-false, cond_both}
use Rattle.rule.specs.declared.record.Record.{Record}
use Rattle.rule.specs.declared.record.Record.TheVariants.{True, Letter, Not, And, Or, Previous, Since, Next, Until}
use Rattle.rule.specs.Components.{first_wait}
use Rattle.rule.specs.Records.{allowed, Sound}
use Rattle.rule.proofs.Numbering.{left_earlier, right_earlier}
use Rattle.logic.specs.Logic.{Formula}
use Rattle.logic.specs.Tables.{row, built, formulas, Below, Earlier, FormulasBuilt}
use Rattle.logic.specs.Conditions.{Setting}
use Rattle.logic.specs.Waits.{reading, settings}

-- a formula, and what a setting of the numbered waits says of its own
pub record Entry : Type 0 where
  pub formula : Formula
  pub setting : (ℕ → Bool) → Setting formula

abbrev pub build : Record → ℕ → (ℕ → Entry) → Entry
build r base e = record { formula = built (λ a. (e a).formula) r; setting = λ v. reading r base (λ a. (e a).formula) (λ a. (e a).setting v) v }

abbrev pub entry : List Record → ℕ → ℕ → Entry
entry rs n j = record { formula = formulas rs n j; setting = settings rs n j }

build_same : (r : Record) (base j : ℕ) (e f : ℕ → Entry) → Below j r → ((a : ℕ) → a < j → e a ≡ f a) → build r base e ≡ build r base f
build_same True base j e f h q = refl
build_same (Letter l) base j e f h q = refl
build_same (Not a) base j e f h q = let x = q a h in λ i. build (Not 0) base (λ n. x i)
build_same (And a b) base j e f h q = let x = q a h.0 in let y = q b h.1 in λ i. build (And 0 1) base (λ n. cond (eqb n 0) (x i) (y i))
build_same (Or a b) base j e f h q = let x = q a h.0 in let y = q b h.1 in λ i. build (Or 0 1) base (λ n. cond (eqb n 0) (x i) (y i))
build_same (Previous I a) base j e f h q = let x = q a h in λ i. build (Previous I 0) base (λ n. x i)
build_same (Since I a b) base j e f h q = let x = q a h.0 in let y = q b h.1 in λ i. build (Since I 0 1) base (λ n. cond (eqb n 0) (x i) (y i))
build_same (Next I a) base j e f h q = let x = q a h in λ i. build (Next I 0) base (λ n. x i)
build_same (Until I a b) base j e f h q = let x = q a h.0 in let y = q b h.1 in λ i. build (Until I 0 1) base (λ n. cond (eqb n 0) (x i) (y i))

module _ (rs : List Record) where
  abbrev pub newly : ℕ → Entry
  newly n = build (row rs n) (first_wait rs n) (entry rs n)

  entry_suc : (n j : ℕ) → entry rs (suc n) j ≡ cond (eqb j n) (newly n) (entry rs n j)
  unfolding formulas settings
  entry_suc n j = go (eqb j n)
    where
      go : (b : Bool) → ◌≡◌ {A = Entry} (record {
        formula = cond b (built (formulas rs n) (row rs n)) (formulas rs n j);
        setting = λ v. elim b as (λ b. Setting (cond b (built (formulas rs n) (row rs n)) (formulas rs n j))) [
          | true ↦ reading (row rs n) (first_wait rs n) (formulas rs n) (λ a. settings rs n a v) v
          | false ↦ settings rs n j v
        ];
      })
          (cond b (newly n) (entry rs n j))
      go true = refl
      go false = refl

  -- what holds of the newest entry and of each earlier one
  pub entry_cases : (P : Entry → Type 0) (n j : ℕ) → P (newly n) → P (entry rs n j) → P (entry rs (suc n) j)
  entry_cases P n j new old = subst P (sym (entry_suc n j)) (cond_both (eqb j n) (newly n) (entry rs n j) P (λ e. new) (λ e. old))

  pub entry_last : (n : ℕ) → entry rs (suc n) n ≡ newly n
  entry_last n = entry_suc n n ∙ cond-true (eqb n n) (newly n) (entry rs n n) (eq-eqb n n refl)

  entry_more : (n j : ℕ) → j < n → entry rs (suc n) j ≡ entry rs n j
  entry_more n j lt = entry_suc n j ∙ cond-false (eqb j n) (newly n) (entry rs n j) (ne_eqb j n (λ e. let c : ⊥ = omega arith in c))

  -- an entry stays as it is
  pub entry_stays : (n m j : ℕ) → n ≤ m → j < n → entry rs m j ≡ entry rs n j
  entry_stays n m j le lt = let e : n + (m - n) ≡ m = omega arith in subst (λ k. entry rs k j ≡ entry rs n j) e (further (m - n))
    where
      further : (k : ℕ) → entry rs (n + k) j ≡ entry rs n j
      further zero = let e : n + 0 ≡ n = omega arith in rw e
      further (suc k) = let e : n + suc k ≡ suc (n + k) = omega arith in rw e (entry_more (n + k) j (omega arith) ∙ further k)

  pub entry_built : (n j : ℕ) → j < n → Below j (row rs j) → entry rs n j ≡ build (row rs j) (first_wait rs j) (entry rs n)
  entry_built n j lt h =
      entry_stays (suc j) n j lt (omega arith) ∙ entry_last j
      ∙ build_same (row rs j) (first_wait rs j) j (entry rs j) (entry rs n) h (λ a l. sym (entry_stays j n a (omega arith) l))

pub formula_built : FormulasBuilt
formula_built rs j earlier lt = ap (λ e. e.formula) (entry_built rs (length rs) j lt (earlier j lt))

-- the arguments of a sound table's records are earlier records
below : (j : ℕ) (r : Record) → allowed j r ≡ true → Below j r
below j True h = tt
below j (Letter l) h = tt
below j (Not a) h = left_earlier j a (Not a) h refl
below j (And a b) h = (left_earlier j a (And a b) h refl, right_earlier j b (And a b) h refl)
below j (Or a b) h = (left_earlier j a (Or a b) h refl, right_earlier j b (Or a b) h refl)
below j (Previous i a) h = left_earlier j a (Previous i a) h refl
below j (Since i a b) h = (left_earlier j a (Since i a b) h refl, right_earlier j b (Since i a b) h refl)
below j (Next i a) h = left_earlier j a (Next i a) h refl
below j (Until i a b) h = (left_earlier j a (Until i a b) h refl, right_earlier j b (Until i a b) h refl)

pub sound_earlier : (rs : List Record) → Sound rs → Earlier rs
sound_earlier rs sound j lt = below j (row rs j) (sound j lt)
