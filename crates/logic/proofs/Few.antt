-- Points of a flat rule whose conditions are open and pairwise different are few: each has a code below the bound.
use Rattle.std.proofs.Common.{◌≡◌, ℕ, suc, ◌+◌, ◌-◌, ◌*◌, ◌/◌, ◌%◌, ◌^◌, ◌<◌, ◌≤◌, Bool, true, false, List, ◌∷◌, map, length, sym, ap, ◌∙◌, subst, arith}
use lib.Arith.{digits_lt, digits_div, digits_mod}
use Rattle.std.proofs.lemmas.List.{length-map}
use Rattle.std.proofs.ByRecursion.{All-map, All-weaker}
use Rattle.rule.specs.declared.record.Record.{Record}
use Rattle.logic.specs.Logic.{Accepted}
use Rattle.logic.specs.Tables.{rule}
use Rattle.logic.specs.Waits.{open_at}
use Rattle.logic.specs.Verdicts.{Rising}
use Rattle.logic.specs.Flat.{Flat, futures, longest, Undecided, Different, FewHeld}
use Rattle.logic.proofs.Pigeon.{Differ, pigeons, map_pairwise}
use Rattle.logic.proofs.TruthTables.{front, front_at, table, table_lt, table_same, table_false, table_true}
use Rattle.logic.proofs.Variables.{class, fill, gather, by_variables}

module _ (rs : List Record) (p : Accepted Bool) (ps : List (Accepted Bool)) (r : Rising (p ∷ ps)) (fl : Flat (rule rs)) where
  abbrev m : ℕ
  m = futures rs

  abbrev fn : ℕ → (ℕ → Bool) → Bool
  fn i x = open_at rs (p ∷ ps) i (fill rs x)

  abbrev number : ℕ → ℕ
  number i = table m (fn i)

  vars : (i : ℕ) → i ≤ length ps → (v : ℕ → Bool) → open_at rs (p ∷ ps) i v ≡ fn i (front m (gather rs (class rs p ps i) v))
  vars i le v = by_variables rs p ps i r fl le v (front m (gather rs (class rs p ps i) v)) (λ j lt. front_at m (gather rs (class rs p ps i) v) j lt)

  constant : (i : ℕ) → i ≤ length ps → (b : Bool) → number i ≡ table m (λ x. b) → (v : ℕ → Bool) → open_at rs (p ∷ ps) i v ≡ b
  constant i le b e v = vars i le v ∙ table_same m (fn i) (λ x. b) e (gather rs (class rs p ps i) v)

  same : (i j : ℕ) → i ≤ length ps → j ≤ length ps → class rs p ps i ≡ class rs p ps j → number i ≡ number j →
      (v : ℕ → Bool) → open_at rs (p ∷ ps) i v ≡ open_at rs (p ∷ ps) j v
  same i j li lj c e v =
      vars i li v ∙ table_same m (fn i) (fn j) e (gather rs (class rs p ps i) v)
      ∙ ap (λ a. fn j (front m (gather rs a v))) c ∙ sym (vars j lj v)

  abbrev code : ℕ → ℕ
  code i = (number i - 1) * suc (longest rs) + class rs p ps i

  -- neither 0 nor the last
  inside : (i : ℕ) → Undecided rs (p ∷ ps) i → (0 < number i) × (number i - 1 < 2 ^ (2 ^ m) - 2)
  inside i h =
      let le : i ≤ length ps = omega (arith, h.accepted) in
      let lt = table_lt m (fn i) in
      let nz : number i ≡ 0 → ⊥ = λ e. h.not_false (constant i le false (e ∙ sym (table_false m))) in
      let nl : number i ≡ 2 ^ (2 ^ m) - 1 → ⊥ = λ e. h.not_true (constant i le true (e ∙ sym (table_true m))) in
      omega arith

  code_lt : (i : ℕ) → Undecided rs (p ∷ ps) i → code i < (2 ^ (2 ^ m) - 2) * suc (longest rs)
  code_lt i h = let c : class rs p ps i < suc (longest rs) = omega arith in digits_lt (inside i h).1 c

  code_differ : (i j : ℕ) → Undecided rs (p ∷ ps) i → Undecided rs (p ∷ ps) j → Different rs (p ∷ ps) i j → Differ (code i) (code j)
  code_differ i j hi hj ne e =
      let K = suc (longest rs) in
      let ci : class rs p ps i < K = omega arith in let cj : class rs p ps j < K = omega arith in
      let q : number i - 1 ≡ number j - 1 = sym (digits_div (number i - 1) ci) ∙ ap (λ n. n / K) e ∙ digits_div (number j - 1) cj in
      let c : class rs p ps i ≡ class rs p ps j = sym (digits_mod (number i - 1) ci) ∙ ap (λ n. n % K) e ∙ digits_mod (number j - 1) cj in
      let a = inside i hi in let b = inside j hj in
      let n : number i ≡ number j = omega arith in
      ne (same i j (omega (arith, hi.accepted)) (omega (arith, hj.accepted)) c n)

pub few_held : FewHeld
few_held rs p ps is r fl und apart =
    let c = code rs p ps r fl in
    let N = (2 ^ (2 ^ futures rs) - 2) * suc (longest rs) in
    subst (λ n. n ≤ N) (length-map is c)
    (pigeons N (map c is)
    (All-map (λ y. y < N) c is (All-weaker (Undecided rs (p ∷ ps)) (λ i. c i < N) (code_lt rs p ps r fl) is und))
    (map_pairwise (Undecided rs (p ∷ ps)) (Different rs (p ∷ ps)) Differ c is (code_differ rs p ps r fl) und apart))
