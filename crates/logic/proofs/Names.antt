-- Different points have different names, and names stay.
use Rattle.std.proofs.Common.{◌≡◌, ℕ, suc, ◌<◌, Bool, cond, eqb, List, [], ◌∷◌, map, length, sym, refl, ap, ◌∙◌, ap₂, inl, inr, arith}
use Rattle.std.specs.List.{AllByRecursion}
use Rattle.std.proofs.ByRecursion.{All-append, all-has, All-weaker}
use Rattle.std.proofs.lemmas.List.Sums.{sum_by-cons}
use Rattle.std.proofs.lemmas.Bool.{cases_eq, cases_order, eq-eqb, ne_eqb, cond-true, cond-false}
use Rattle.rule.specs.declared.record.Record.{Record}
use Rattle.logic.specs.declared.verdict.Line.TheVariants.{True, False, Joined}
use Rattle.logic.specs.Logic.{Accepted}
use Rattle.logic.specs.Runs.{Verdict, true_at, false_at, joined, Treats, none_left, is_true, is_false, is_same, is_open, Run, fitted, accepts}
use Rattle.logic.specs.Flat.{Undecided}
use Rattle.logic.specs.Names.{stamped, name_of, line_of, NamesApart, LinesStay}
use Rattle.logic.proofs.Runs.{run_law}

module _ (p : Accepted Bool) (ps : List (Accepted Bool)) where
  pub name_newest : name_of (p ∷ ps) (length ps) ≡ record { stamp = p.stamp; offset = stamped p.stamp ps }
  name_newest = cond-true (eqb (length ps) (length ps)) (record { stamp = p.stamp; offset = stamped p.stamp ps }) (name_of ps (length ps)) (eq-eqb (length ps) (length ps) refl)

  pub name_stays : (i : ℕ) → i < length ps → name_of (p ∷ ps) i ≡ name_of ps i
  name_stays i lt = cond-false (eqb i (length ps)) (record { stamp = p.stamp; offset = stamped p.stamp ps }) (name_of ps i) (ne_eqb i (length ps) (λ e. let c : ⊥ = omega arith in c))

-- a point's offset is below the number of points of its stamp
offset_lt : (ps : List (Accepted Bool)) (i t : ℕ) → i < length ps → (name_of ps i).stamp ≡ t → (name_of ps i).offset < stamped t ps
offset_lt [] i t lt e = absurd (let c : ⊥ = omega arith in c)
offset_lt (p ∷ ps) i t lt e = elim (cases_eq i (length ps)) [
  | inl q ↦
      let n = ap (name_of (p ∷ ps)) q ∙ name_newest p ps in
      let same : p.stamp ≡ t = sym (ap (λ x. x.stamp) n) ∙ e in
      let more = sum_by-cons (λ q. cond (eqb q.stamp t) 1 0) p ps in
      let one = eq-eqb p.stamp t same in
      let here : cond {A = ℕ} (eqb p.stamp t) 1 0 ≡ 1 = ap (λ b. cond {A = ℕ} b 1 0) one in
      let off : (name_of (p ∷ ps) i).offset ≡ stamped t ps = ap (λ x. x.offset) n ∙ ap (λ s. stamped s ps) same in
      omega arith
  | inr ne ↦
      let n = name_stays p ps i (omega arith) in
      let old = offset_lt ps i t (omega arith) (sym (ap (λ x. x.stamp) n) ∙ e) in
      let more = sum_by-cons (λ q. cond (eqb q.stamp t) 1 0) p ps in
      let off : (name_of (p ∷ ps) i).offset ≡ (name_of ps i).offset = ap (λ x. x.offset) n in
      omega arith
]

earlier_apart : (ps : List (Accepted Bool)) (i j : ℕ) → i < j → j < length ps → name_of ps i ≡ name_of ps j → ⊥
earlier_apart [] i j lt le e = omega arith
earlier_apart (p ∷ ps) i j lt le e = elim (cases_eq j (length ps)) [
  | inl q ↦
      let old = name_stays p ps i (omega arith) in
      let same : name_of ps i ≡ record { stamp = p.stamp; offset = stamped p.stamp ps } = sym old ∙ e ∙ ap (name_of (p ∷ ps)) q ∙ name_newest p ps in
      let less = offset_lt ps i p.stamp (omega arith) (ap (λ x. x.stamp) same) in
      let off : (name_of ps i).offset ≡ stamped p.stamp ps = ap (λ x. x.offset) same in
      let c : ⊥ = omega arith in c
  | inr ne ↦ earlier_apart ps i j lt (omega arith) (sym (name_stays p ps i (omega arith)) ∙ e ∙ name_stays p ps j (omega arith))
]

pub names_apart : NamesApart
names_apart ps i j li lj e = elim (cases_order i j) [
  | inl q ↦ q
  | inr (inl lt) ↦ absurd (earlier_apart ps i j lt lj e)
  | inr (inr gt) ↦ absurd (earlier_apart ps j i gt li (sym e))
]

-- the points of a verdict are below n
abbrev Below : ℕ → Verdict → Type 0
Below n (true_at i) = i < n
Below n (false_at i) = i < n
Below n (joined i j) = (i < n) × (j < n)

below_more : (n : ℕ) (l : Verdict) → Below n l → Below (suc n) l
below_more n (true_at i) h = omega arith
below_more n (false_at i) h = omega arith
below_more n (joined i j) h = (omega (arith, h.0), omega (arith, h.1))

treated_below : {rs : List Record} {ps : List (Accepted Bool)} (n : ℕ) {kept is held : List ℕ} {ls : List Verdict} → Treats rs ps kept is ls held →
    AllByRecursion (λ i. i < n) kept → AllByRecursion (λ i. i < n) is → AllByRecursion (Below n) ls
treated_below n none_left k h = tt
treated_below n (is_true c t) k h = (h.0, treated_below n t k h.1)
treated_below n (is_false c t) k h = (h.0, treated_below n t k h.1)
treated_below n (is_same {j = j} {kept = kept} m c t) k h = ((h.0, all-has (λ i. i < n) kept j k m), treated_below n t k h.1)
treated_below n (is_open a b c t) k h = treated_below n t (h.0, k) h.1

run_below : (rs : List Record) (ps : List (Accepted Bool)) (ls : List Verdict) (held : List ℕ) → Run rs ps ls held → AllByRecursion (Below (length ps)) ls
run_below rs ps ls held fitted = tt
run_below rs ps ls held (accepts {ps = qs} {before = before} {now = now} {old = old} r rise t) =
    let n = length qs in
    let earlier : AllByRecursion (λ i. i < suc n) old = All-weaker (Undecided rs qs) (λ i. i < suc n) (λ i u. omega (arith, u.accepted)) old (run_law rs qs before old r).undecided in
    All-append (Below (suc n)) before now (All-weaker (Below n) (Below (suc n)) (below_more n) before (run_below rs qs before old r))
    (treated_below (suc n) t tt (All-append (λ i. i < suc n) old (n ∷ []) earlier (omega arith, tt)))

line_stays : (p : Accepted Bool) (ps : List (Accepted Bool)) (l : Verdict) → Below (length ps) l → line_of (p ∷ ps) l ≡ line_of ps l
line_stays p ps (true_at i) h = ap True (name_stays p ps i h)
line_stays p ps (false_at i) h = ap False (name_stays p ps i h)
line_stays p ps (joined i j) h = ap₂ Joined (name_stays p ps i h.0) (name_stays p ps j h.1)

pub lines_stay : LinesStay
lines_stay rs p ps ls held r = go ls (run_below rs ps ls held r)
  where
    go : (ls : List Verdict) → AllByRecursion (Below (length ps)) ls → map (line_of (p ∷ ps)) ls ≡ map (line_of ps) ls
    go [] h = refl
    go (l ∷ ls) h = ap₂ ◌∷◌ (line_stays p ps l h.0) (go ls h.1)
