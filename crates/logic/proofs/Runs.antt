-- The law of runs.
use Rattle.std.proofs.Common.{◌≡◌, ℕ, suc, ◌+◌, ◌-◌, ◌<◌, Bool, true, false, cond, eqb, ltb, List, [], ◌∷◌, ◌++◌, map, length, count_by, sym, refl, ap, ◌∙◌, append_assoc, arith, length-append}
use Rattle.std.specs.List.{ContainsAt as Has, AllByRecursion}
use Rattle.std.proofs.ByRecursion.{All-append, all-has, all_has_itself, All-weaker}
use Rattle.std.proofs.lemmas.List.Sums.{sum_by-cons, sum_by-append}
use Rattle.std.proofs.lemmas.Bool.Decides.{nat_tests}
use Rattle.rule.specs.declared.record.Record.{Record}
use Rattle.logic.specs.Logic.{Stream, Accepted, Begins, Not}
use Rattle.logic.specs.Tables.{rule}
use Rattle.logic.specs.Waits.{open_at}
use Rattle.logic.specs.Reach.{reach, Over, stamp_of}
use Rattle.logic.specs.Flat.{Undecided, Different, Pairwise}
use Rattle.logic.specs.Runs.{Verdict, subject, Treats, none_left, is_true, is_false, is_same, is_open}
use Rattle.logic.specs.Runs.{fitted, accepts, Truthful, Backward, Joins, RunLaw, JoinsHeld, HeldYoung, RunFew}
use Rattle.logic.proofs.Verdicts.{sound_true, sound_false, sound_joined}
use Rattle.logic.proofs.Settled.{settles}
use Rattle.logic.proofs.Few.{few_held}

-- one more verdict, and one more held point
count_said : (n i : ℕ) (is xs : List ℕ) → count_by (eqb n) xs ≡ count_by (eqb n) is → count_by (eqb n) (i ∷ xs) ≡ count_by (eqb n) (i ∷ is)
count_said n i is xs e =
    let one : ℕ → ℕ = λ x. cond (eqb n x) 1 0 in
    sum_by-cons one i xs ∙ ap (λ m. one i + m) e ∙ sym (sum_by-cons one i is)

count_held : (n i : ℕ) (is xs ys : List ℕ) → count_by (eqb n) (xs ++ ys) ≡ count_by (eqb n) is → count_by (eqb n) (xs ++ (i ∷ ys)) ≡ count_by (eqb n) (i ∷ is)
count_held n i is xs ys e =
    let one : ℕ → ℕ = λ x. cond (eqb n x) 1 0 in
    let a = sum_by-append one xs (i ∷ ys) in let b = sum_by-cons one i ys in let c = sum_by-append one xs ys in let d = sum_by-cons one i is in
    omega arith

module _ {rs : List Record} {ps : List (Accepted Bool)} where
  -- what holds of each of the treated points holds of each that is held, and so for pairs
  held_all : (P : ℕ → Type 0) {kept is held : List ℕ} {ls : List Verdict} → Treats rs ps kept is ls held → AllByRecursion P is → AllByRecursion P held
  held_all P none_left h = tt
  held_all P (is_true c t) h = held_all P t h.1
  held_all P (is_false c t) h = held_all P t h.1
  held_all P (is_same k c t) h = held_all P t h.1
  held_all P (is_open a b c t) h = (h.0, held_all P t h.1)

  held_pairwise : (R : ℕ → ℕ → Type 0) {kept is held : List ℕ} {ls : List Verdict} → Treats rs ps kept is ls held → Pairwise R is → Pairwise R held
  held_pairwise R none_left h = tt
  held_pairwise R (is_true c t) h = held_pairwise R t h.1
  held_pairwise R (is_false c t) h = held_pairwise R t h.1
  held_pairwise R (is_same k c t) h = held_pairwise R t h.1
  held_pairwise R (is_open {i = i} a b c t) h = (held_all (R i) t h.0, held_pairwise R t h.1)

  -- each treated point is held, or has one verdict
  treated_once : {kept is held : List ℕ} {ls : List Verdict} → Treats rs ps kept is ls held →
      (n : ℕ) → count_by (eqb n) (map subject ls ++ held) ≡ count_by (eqb n) is
  treated_once none_left n = refl
  treated_once (is_true {i = i} {is = is} {held = held} {ls = ls} c t) n = count_said n i is (map subject ls ++ held) (treated_once t n)
  treated_once (is_false {i = i} {is = is} {held = held} {ls = ls} c t) n = count_said n i is (map subject ls ++ held) (treated_once t n)
  treated_once (is_same {i = i} {is = is} {held = held} {ls = ls} k c t) n = count_said n i is (map subject ls ++ held) (treated_once t n)
  treated_once (is_open {i = i} {is = is} {held = held} {ls = ls} a b c t) n = count_held n i is (map subject ls) held (treated_once t n)

  treated_total : {kept is held : List ℕ} {ls : List Verdict} → Treats rs ps kept is ls held → length ls + length held ≡ length is
  treated_total none_left = refl
  treated_total (is_true c t) = let h = treated_total t in omega arith
  treated_total (is_false c t) = let h = treated_total t in omega arith
  treated_total (is_same k c t) = let h = treated_total t in omega arith
  treated_total (is_open a b c t) = let h = treated_total t in omega arith

  -- the held points are open, different from each other and from those kept before
  held_undecided : {kept is held : List ℕ} {ls : List Verdict} → Treats rs ps kept is ls held → AllByRecursion (λ i. i < length ps) is → AllByRecursion (Undecided rs ps) held
  held_undecided none_left h = tt
  held_undecided (is_true c t) h = held_undecided t h.1
  held_undecided (is_false c t) h = held_undecided t h.1
  held_undecided (is_same k c t) h = held_undecided t h.1
  held_undecided (is_open a b c t) h = (record { accepted = h.0; not_true = a; not_false = b }, held_undecided t h.1)

  held_new : {kept is held : List ℕ} {ls : List Verdict} → Treats rs ps kept is ls held → AllByRecursion (λ i. AllByRecursion (λ j. Different rs ps j i) kept) held
  held_new none_left = tt
  held_new (is_true c t) = held_new t
  held_new (is_false c t) = held_new t
  held_new (is_same k c t) = held_new t
  held_new (is_open {i = i} {kept = kept} {held = held} a b c t) =
      (c, All-weaker (λ n. AllByRecursion (λ j. Different rs ps j n) (i ∷ kept)) (λ n. AllByRecursion (λ j. Different rs ps j n) kept) (λ n h. h.1) held (held_new t))

  held_apart : {kept is held : List ℕ} {ls : List Verdict} → Treats rs ps kept is ls held → Pairwise (Different rs ps) held
  held_apart none_left = tt
  held_apart (is_true c t) = held_apart t
  held_apart (is_false c t) = held_apart t
  held_apart (is_same k c t) = held_apart t
  held_apart (is_open {i = i} {kept = kept} {held = held} a b c t) =
      (All-weaker (λ n. AllByRecursion (λ j. Different rs ps j n) (i ∷ kept)) (Different rs ps i) (λ n h. h.0) held (held_new t), held_apart t)

  -- a point is joined to one that was kept before or is held
  treated_joins : (P : ℕ → Type 0) {kept is held : List ℕ} {ls : List Verdict} → Treats rs ps kept is ls held → AllByRecursion P kept → AllByRecursion P held → AllByRecursion (Joins P) ls
  treated_joins P none_left k h = tt
  treated_joins P (is_true c t) k h = (tt, treated_joins P t k h)
  treated_joins P (is_false c t) k h = (tt, treated_joins P t k h)
  treated_joins P (is_same {j = j} {kept = kept} m c t) k h = (all-has P kept j k m, treated_joins P t k h)
  treated_joins P (is_open a b c t) k h = treated_joins P t (h.0, k) h.1

  -- and that is earlier
  treated_backward : {kept is held : List ℕ} {ls : List Verdict} → Treats rs ps kept is ls held → Pairwise ◌<◌ is → AllByRecursion (λ i. AllByRecursion (λ j. j < i) kept) is → AllByRecursion Backward ls
  treated_backward none_left o k = tt
  treated_backward (is_true c t) o k = (tt, treated_backward t o.1 k.1)
  treated_backward (is_false c t) o k = (tt, treated_backward t o.1 k.1)
  treated_backward (is_same {i = i} {j = j} {kept = kept} m c t) o k = (all-has (λ j. j < i) kept j k.0 m, treated_backward t o.1 k.1)
  treated_backward (is_open {i = i} {kept = kept} {is = is} a b c t) o k = treated_backward t o.1 (both is o.0 k.1)
    where
      both : (xs : List ℕ) → AllByRecursion (λ n. i < n) xs → AllByRecursion (λ n. AllByRecursion (λ j. j < n) kept) xs → AllByRecursion (λ n. AllByRecursion (λ j. j < n) (i ∷ kept)) xs
      both [] a b = tt
      both (x ∷ xs) a b = ((a.0, b.0), both xs a.1 b.1)

-- the verdicts are so under every continuation
treated_sound : (rs : List Record) (p : Accepted Bool) (ps : List (Accepted Bool)) (ρ : Stream Bool) → Begins ρ (p ∷ ps) →
    {kept is held : List ℕ} {ls : List Verdict} → Treats rs (p ∷ ps) kept is ls held →
    AllByRecursion (λ i. i < suc (length ps)) is → AllByRecursion (λ i. i < suc (length ps)) kept → AllByRecursion (Truthful rs ρ) ls
treated_sound rs p ps ρ b none_left h k = tt
treated_sound rs p ps ρ b (is_true {i = i} c t) h k = (sound_true rs p ps i (omega (arith, h.0)) c ρ b, treated_sound rs p ps ρ b t h.1 k)
treated_sound rs p ps ρ b (is_false {i = i} c t) h k = (sound_false rs p ps i (omega (arith, h.0)) c ρ b, treated_sound rs p ps ρ b t h.1 k)
treated_sound rs p ps ρ b (is_same {i = i} {j = j} {kept = kept} m c t) h k =
    let e = all-has (λ i. i < suc (length ps)) kept j k m in
    (sound_joined rs p ps i j (omega (arith, h.0)) (omega arith) c ρ b, treated_sound rs p ps ρ b t h.1 k)
treated_sound rs p ps ρ b (is_open a c d t) h k = treated_sound rs p ps ρ b t h.1 (h.0, k)

-- the points that are treated when one more is accepted stand earliest first
ordered_push : (xs : List ℕ) (n : ℕ) → Pairwise ◌<◌ xs → AllByRecursion (λ i. i < n) xs → Pairwise ◌<◌ (xs ++ (n ∷ []))
ordered_push [] n o h = (tt, tt)
ordered_push (x ∷ xs) n o h = (All-append (λ i. x < i) xs (n ∷ []) o.0 (h.0, tt), ordered_push xs n o.1 h.1)

none_kept : (xs : List ℕ) → AllByRecursion (λ i. AllByRecursion (λ j. j < i) []) xs
none_kept [] = tt
none_kept (x ∷ xs) = (tt, none_kept xs)

-- each point once, when one more is accepted
subjects_append : (xs ys : List Verdict) → map subject (xs ++ ys) ≡ map subject xs ++ map subject ys
subjects_append [] ys = refl
subjects_append (x ∷ xs) ys = ap (λ zs. subject x ∷ zs) (subjects_append xs ys)

one_more : (i n : ℕ) → cond {A = ℕ} (ltb i n) 1 0 + cond (eqb i n) 1 0 ≡ cond (ltb i (suc n)) 1 0
one_more i n = grind (arith, nat_tests)

accepted_once : (i n : ℕ) (before now : List Verdict) (old held : List ℕ) →
    count_by (eqb i) (map subject before ++ old) ≡ cond (ltb i n) 1 0 → count_by (eqb i) (map subject now ++ held) ≡ count_by (eqb i) (old ++ (n ∷ [])) →
    count_by (eqb i) (map subject (before ++ now) ++ held) ≡ cond (ltb i (suc n)) 1 0
accepted_once i n before now old held once treated =
    let one : ℕ → ℕ = λ x. cond (eqb i x) 1 0 in
    let a = sum_by-append one (map subject before) (map subject now ++ held) in
    let b = sum_by-append one (map subject before) old in
    let c = sum_by-append one old (n ∷ []) in
    let d = sum_by-cons one n [] in
    let e = one_more i n in
    ap (λ xs. count_by (eqb i) (xs ++ held)) (subjects_append before now)
    ∙ ap (count_by (eqb i)) (append_assoc (map subject before) (map subject now) held) ∙ omega arith

none_below : (i : ℕ) → ◌≡◌ {A = ℕ} 0 (cond (ltb i 0) 1 0)
none_below i = grind (arith, nat_tests)

pub run_law : RunLaw
run_law rs ps ls held fitted = record {
  sound = λ ρ b. tt;
  once = λ i. none_below i;
  total = refl;
  backward = tt;
  ordered = tt;
  undecided = tt;
  apart = tt;
}
run_law rs ps ls held (accepts {p = p} {ps = qs} {before = before} {now = now} {old = old} r rise t) =
    let law = run_law rs qs before old r in
    let n = length qs in
    let earlier : AllByRecursion (λ i. i < n) old = All-weaker (Undecided rs qs) (λ i. i < n) (λ i h. h.accepted) old law.undecided in
    let accepted : AllByRecursion (λ i. i < suc n) (old ++ (n ∷ [])) = All-append (λ i. i < suc n) old (n ∷ []) (All-weaker (λ i. i < n) (λ i. i < suc n) (λ i h. omega arith) old earlier) (omega arith, tt) in
    let order = ordered_push old n law.ordered earlier in
    record {
      sound = λ ρ b. All-append (Truthful rs ρ) before now (law.sound ρ b.2) (treated_sound rs p qs ρ b t accepted tt);
      once = λ i. accepted_once i n before now old held (law.once i) (treated_once t i);
      total = let a = law.total in let b = treated_total t in let c = length-append before now in let d = length-append old (n ∷ []) in omega arith;
      backward = All-append Backward before now law.backward (treated_backward t order (none_kept (old ++ (n ∷ []))));
      ordered = held_pairwise ◌<◌ t order;
      undecided = held_undecided t accepted;
      apart = held_apart t;
    }

pub joins_held : JoinsHeld
joins_held rs ps is held ls t = treated_joins (Has held) t tt (all_has_itself held)

pub held_young : HeldYoung
held_young rs p ps ls held (accepts {before = before} {now = now} {old = old} r rise t) =
    let law = run_law rs (p ∷ ps) (before ++ now) held (accepts r rise t) in
    All-weaker (Undecided rs (p ∷ ps)) (λ i. Not (Over (reach (rule rs)) (p.stamp - stamp_of (p ∷ ps) i))) young held law.undecided
  where
    young : (i : ℕ) → Undecided rs (p ∷ ps) i → Not (Over (reach (rule rs)) (p.stamp - stamp_of (p ∷ ps) i))
    young i u o = constant (open_at rs (p ∷ ps) i (λ w. false)) refl
      where
        constant : (b : Bool) → open_at rs (p ∷ ps) i (λ w. false) ≡ b → ⊥
        constant true e = u.not_true (λ v. settles rs p ps i rise (omega (arith, u.accepted)) o v (λ w. false) ∙ e)
        constant false e = u.not_false (λ v. settles rs p ps i rise (omega (arith, u.accepted)) o v (λ w. false) ∙ e)

pub run_few : RunFew
run_few rs ps ls held fitted flat = omega arith
run_few rs ps ls held (accepts {p = p} {ps = qs} {before = before} {now = now} r rise t) flat =
    let law = run_law rs (p ∷ qs) (before ++ now) held (accepts r rise t) in few_held rs p qs held rise flat law.undecided law.apart
