-- Filling in conditions: letters that are given agree with the sample's, and one row more.
use Rattle.std.proofs.Common.{◌≡◌, ℕ, suc, ◌<◌, ◌≤◌, true, List, [], ◌∷◌, ◌++◌, map, length, get_or, take, drop, set, Some, None, Option, sym, refl, ap, ◌∙◌, ap₂, arith}
use Rattle.std.specs.List.{range_with_len}
use Rattle.std.proofs.lemmas.List.FromFn.{get_or-map-range_with_len}
use Rattle.std.proofs.lemmas.List.{append-nil, get_or_past, length-append, length-take-le}
use Rattle.std.proofs.lemmas.Bool.{leb-true}
use Rattle.truth.specs.declared.table.Condition.{Condition}
use Rattle.truth.specs.Tables.{openly}
use Rattle.truth.specs.Replacing.{replaced}
use Rattle.truth.proofs.Tabled.{replaced_never}
use Rattle.feed.specs.Entries.{letter_count}
use Rattle.feed.specs.Lists.{onto}
use Rattle.feed.proofs.Onto.{onto_more, onto_onto, onto_part, onto_split, take_onto}
use Rattle.rule.specs.declared.record.Record.{Record}
use Rattle.rule.specs.declared.record.Record.TheVariants.{True, Letter, Not, And, Or, Previous, Since, Next, Until}
use Rattle.rule.specs.Limits.{last_letter}
use Rattle.rule.specs.Records.{allowed}
use Rattle.instant.specs.Step as instant
use Rattle.logic.specs.Steps.{evaluated}
use Rattle.logic.specs.Values.{at_shift_or}
use Rattle.rule.specs.Components.{components, first_component, first_wait, left_of, shifts, waits}
use Rattle.rule.proofs.Numbering.{first_all}
use Rattle.logic.proofs.Places.{waits_all}
use Rattle.logic.specs.Draws.{among, brought, lettered, Filled, filled, row_values, row_waits}
use Rattle.logic.proofs.Filling.{values_long, becomes_long}

-- the letters that are spelled out are the sample's, as far as a sound record reads them
pub spelled_evaluated : (w : ℕ) (ls : List Condition) → ls ≡ map (lettered w) (range_with_len 0 letter_count) → (j : ℕ) (r : Record) → allowed j r ≡ true →
    (s : ℕ) (left right from : Condition) → evaluated openly r s (instant.lettered openly ls) left right from ≡ evaluated openly r s (lettered w) left right from
spelled_evaluated w ls e j True h s left right from = refl
spelled_evaluated w ls e j (Letter l) h s left right from =
    let low : l ≤ last_letter = leb-true l last_letter h in
    ap (λ x. get_or x l openly.never) e ∙ get_or-map-range_with_len (lettered w) 0 letter_count l l openly.never (omega arith) (omega arith)
spelled_evaluated w ls e j (Not a) h s left right from = refl
spelled_evaluated w ls e j (And a b) h s left right from = refl
spelled_evaluated w ls e j (Or a b) h s left right from = refl
spelled_evaluated w ls e j (Previous i a) h s left right from = refl
spelled_evaluated w ls e j (Since i a b) h s left right from = refl
spelled_evaluated w ls e j (Next i a) h s left right from = refl
spelled_evaluated w ls e j (Until i a b) h s left right from = refl

-- a record without arguments has one shift, and looks at nothing but the letters
pub leaf_shifts : (r : Record) → None ≡ left_of r → shifts r ≡ 1
leaf_shifts True h = refl
leaf_shifts (Letter l) h = refl
leaf_shifts (Not a) h = absurd (let z : ◌≡◌ {A = ℕ} 0 1 = cc in omega arith)
leaf_shifts (And a b) h = absurd (let z : ◌≡◌ {A = ℕ} 0 1 = cc in omega arith)
leaf_shifts (Or a b) h = absurd (let z : ◌≡◌ {A = ℕ} 0 1 = cc in omega arith)
leaf_shifts (Previous i a) h = absurd (let z : ◌≡◌ {A = ℕ} 0 1 = cc in omega arith)
leaf_shifts (Since i a b) h = absurd (let z : ◌≡◌ {A = ℕ} 0 1 = cc in omega arith)
leaf_shifts (Next i a) h = absurd (let z : ◌≡◌ {A = ℕ} 0 1 = cc in omega arith)
leaf_shifts (Until i a b) h = absurd (let z : ◌≡◌ {A = ℕ} 0 1 = cc in omega arith)

pub leaf_same : (r : Record) → None ≡ left_of r → (ls : ℕ → Condition) (s : ℕ) (a b c x y z : Condition) → evaluated openly r s ls a b c ≡ evaluated openly r s ls x y z
leaf_same True h ls s a b c x y z = refl
leaf_same (Letter l) h ls s a b c x y z = refl
leaf_same (Not d) h ls s a b c x y z = absurd (let z : ◌≡◌ {A = ℕ} 0 1 = cc in omega arith)
leaf_same (And d e) h ls s a b c x y z = absurd (let z : ◌≡◌ {A = ℕ} 0 1 = cc in omega arith)
leaf_same (Or d e) h ls s a b c x y z = absurd (let z : ◌≡◌ {A = ℕ} 0 1 = cc in omega arith)
leaf_same (Previous i d) h ls s a b c x y z = absurd (let z : ◌≡◌ {A = ℕ} 0 1 = cc in omega arith)
leaf_same (Since i d e) h ls s a b c x y z = absurd (let z : ◌≡◌ {A = ℕ} 0 1 = cc in omega arith)
leaf_same (Next i d) h ls s a b c x y z = absurd (let z : ◌≡◌ {A = ℕ} 0 1 = cc in omega arith)
leaf_same (Until i d e) h ls s a b c x y z = absurd (let z : ◌≡◌ {A = ℕ} 0 1 = cc in omega arith)

-- a component's condition, if there is one
pub before_at : (vs : List Condition) (o : Option ℕ) → instant.before openly vs o ≡ at_shift_or (among vs) openly.never o
before_at vs None = refl
before_at vs (Some c) = refl

-- a row behind the first n of S
pub row_split : {T : Type 0} (S front back R row : List T) (n m w : ℕ) → n ≤ length S → m ≡ n → front ≡ take m S → back ≡ drop m S → R ≡ row → length row ≡ w
    → front ++ (R ++ drop w back) ≡ onto (take n S ++ row) S
row_split S front back R row n m w room at f b e long =
    ap₂ (λ X Y. X ++ Y) (f ∙ ap (λ i. take i S) at) (ap₂ (λ X Y. X ++ drop w Y) e (b ∙ ap (λ i. drop i S) at))
    ∙ onto_split (take n S) row S n w (length-take-le n S room) long

-- where nothing lies across the gap, never is carried to never
pub brought_past : (ws before : List Condition) (c : ℕ) → length before ≤ c → openly.never ≡ brought ws before (Some c)
brought_past ws before c h = replaced_never ws ∙ ap (replaced ws) (sym (get_or_past before c openly.never h))

-- a row of one element
pub row_of_one : {T : Type 0} (S : List T) (n m : ℕ) (v : T) (f : ℕ → T) → n < length S → m ≡ 1 → v ≡ f 0 → set S n v ≡ onto (take n S ++ map f (range_with_len 0 m)) S
row_of_one S n m v f h e is =
    ap (λ X. set X n v) (onto_part S n (omega arith) ∙ ap (λ A. onto A S) (append-nil (take n S)))
    ∙ onto_more (take n S) S n v (length-take-le n S (omega arith)) h
    ∙ ap (λ x. onto (take n S ++ x ∷ []) S) is
    ∙ ap (λ k. onto (take n S ++ map f (range_with_len 0 k)) S) (sym e)

-- a row behind what is written already
pub row_behind : {T : Type 0} (A B S : List T) (n : ℕ) → length A ≡ n → onto (take n (onto A S) ++ B) (onto A S) ≡ onto (A ++ B) S
row_behind A B S n e =
    ap (λ x. onto (x ++ B) (onto A S)) (take_onto A S n e) ∙ onto_onto A (A ++ B) S (rw (length-append A B) (omega arith))

-- one record more
module _ (rs : List Record) (word : ℕ) (gap : Option ℕ) (before : List Condition) (S W : List Condition) (j : ℕ) (lt : j < length rs) where
  abbrev old : Filled
  old = filled rs word gap before j

  abbrev new : Filled
  new = filled rs word gap before (suc j)

  module _ (R Q : List Condition) (r : R ≡ onto old.values S) (q : Q ≡ onto old.becomes W) where
    values_taken : take (first_component rs j) R ≡ old.values
    values_taken = ap (take (first_component rs j)) r ∙ take_onto old.values S (first_component rs j) (values_long rs word gap before j (omega arith))

    becomes_taken : take (first_wait rs j) Q ≡ old.becomes
    becomes_taken = ap (take (first_wait rs j)) q ∙ take_onto old.becomes W (first_wait rs j) (becomes_long rs word gap before j)

    pub values_more : (R' : List Condition) (m : ℕ) → m ≡ first_wait rs j
        → R' ≡ onto (take (first_component rs j) R ++ row_values rs word gap before (take (first_component rs j) R) (take m Q) j) R → R' ≡ onto new.values S
    values_more R' m e x =
        let B = row_values rs word gap before old.values old.becomes j in
        x ∙ ap₂ (λ V U. onto (take (first_component rs j) R ++ row_values rs word gap before V U j) R) values_taken (ap (λ z. take z Q) e ∙ becomes_taken)
        ∙ ap (λ z. onto (take (first_component rs j) z ++ B) z) r
        ∙ row_behind old.values B S (first_component rs j) (values_long rs word gap before j (omega arith))

    pub becomes_more : (R' Q' : List Condition) (n : ℕ) → n ≡ first_component rs (suc j) → R' ≡ onto new.values S
        → Q' ≡ onto (take (first_wait rs j) Q ++ row_waits rs gap (take n R') j) Q → Q' ≡ onto new.becomes W
    becomes_more R' Q' n e x y =
        let B = row_waits rs gap new.values j in
        let all : take n R' ≡ new.values = ap₂ take e x ∙ take_onto new.values S (first_component rs (suc j)) (values_long rs word gap before (suc j) lt) in
        y ∙ ap (λ V. onto (take (first_wait rs j) Q ++ row_waits rs gap V j) Q) all
        ∙ ap (λ z. onto (take (first_wait rs j) z ++ B) z) q
        ∙ row_behind old.becomes B W (first_wait rs j) (becomes_long rs word gap before j)

-- what is filled in lies at the front
module _ (rs : List Record) (word : ℕ) (gap : Option ℕ) (before S : List Condition) where
  pub values_front : take (components rs) (onto (filled rs word gap before (length rs)).values S) ≡ (filled rs word gap before (length rs)).values
  values_front = take_onto _ S (components rs) (values_long rs word gap before (length rs) (omega arith) ∙ first_all rs)

  pub becomes_front : take (waits rs) (onto (filled rs word gap before (length rs)).becomes S) ≡ (filled rs word gap before (length rs)).becomes
  becomes_front = take_onto _ S (waits rs) (becomes_long rs word gap before (length rs) ∙ waits_all rs)
