-- The newest values of a table's components: how they are filled in, and what each of them is.
use Rattle.std.proofs.Common.{◌≡◌, ℕ, zero, suc, ◌+◌, ◌-◌, ◌*◌, ◌<◌, ◌≤◌, true, List, [], ◌∷◌, ◌++◌, map, length, get_or, take, drop, Some, None, Option, sym, refl, ap, ◌∙◌, ap₂, add-one, arith}
use mathlib.Core.Path.{fun_ext}
use Rattle.std.specs.List.{range_with_len}
use Rattle.std.proofs.lemmas.List.{length-append, length-take-le, take_more, take_all, get_or_append_left, get_or-append-add}
use Rattle.std.proofs.lemmas.List.FromFn.{length-map-range_with_len, get_or-map-range_with_len}
use Rattle.truth.specs.Laws.{Ops}
use Rattle.rule.specs.declared.record.Record.{Record}
use Rattle.rule.specs.declared.record.Record.TheVariants.{True}
use Rattle.rule.specs.Components.{shifts, first_component, components, left_of, right_of, earlier}
use Rattle.rule.specs.Records.{allowed, Sound}
use Rattle.logic.specs.Steps.{evaluated}
use Rattle.rule.proofs.Numbering.{first_more, first_mono, first_all, first_up, left_earlier, right_earlier, earlier_lt}
use Rattle.instant.specs.Step.{lettered, argument, before, valued, row, filled, newest, kept, is_first, advanced}
use Rattle.feed.specs.Lists.{onto}
use Rattle.instant.proofs.Kept.{length_kept}
use Rattle.feed.proofs.Onto.{onto_all, onto_onto, onto_split, take_onto}

module _ {T : Type 0} (k : Ops T) (rs : List Record) (ls : List T) (g : Option ℕ) where
  argument_same : (vs us : List T) (o : Option ℕ) → ((a : ℕ) → o ≡ Some a → get_or vs (first_component rs a) k.never ≡ get_or us (first_component rs a) k.never)
      → argument k rs vs o ≡ argument k rs us o
  argument_same vs us None e = refl
  argument_same vs us (Some a) e = e a refl

  before_same : (bs cs : List T) (o : Option ℕ) → ((c : ℕ) → o ≡ Some c → get_or bs c k.never ≡ get_or cs c k.never) → before k bs o ≡ before k cs o
  before_same bs cs None e = refl
  before_same bs cs (Some c) e = e c refl

  -- a value rests on those of earlier records alone
  pub valued_same : (vs us bs : List T) (r : Record) (j n s : ℕ) → allowed j r ≡ true
      → ((a : ℕ) → a < j → get_or vs (first_component rs a) k.never ≡ get_or us (first_component rs a) k.never)
      → valued k rs ls g vs bs r n s ≡ valued k rs ls g us bs r n s
  valued_same vs us bs r j n s h e =
      ap₂ (λ x y. evaluated k r s (lettered k ls) x y (before k bs (earlier rs r n s g)))
      (argument_same vs us (left_of r) (λ a q. e a (left_earlier j a r h q)))
      (argument_same vs us (right_of r) (λ a q. e a (right_earlier j a r h q)))

  module _ (bs : List T) where
    filled_append : (xs ys : List Record) (vs : List T) → filled k rs ls g bs (xs ++ ys) vs ≡ filled k rs ls g bs ys (filled k rs ls g bs xs vs)
    filled_append [] ys vs = refl
    filled_append (x ∷ xs) ys vs = filled_append xs ys (vs ++ row k rs ls g vs bs x)

    -- the values of the first j records
    abbrev pub front : ℕ → List T
    front j = filled k rs ls g bs (take j rs) []

    pub front_more : (j : ℕ) → j < length rs → front (j + 1) ≡ front j ++ row k rs ls g (front j) bs (get_or rs j True)
    front_more j h = ap (λ qs. filled k rs ls g bs qs []) (take_more rs j True h) ∙ filled_append (take j rs) (get_or rs j True ∷ []) []

    pub length_row : (vs : List T) (r : Record) → length (row k rs ls g vs bs r) ≡ shifts r
    length_row vs r = length-map-range_with_len (λ s. valued k rs ls g vs bs r (length vs) s) 0 (shifts r)

    pub length_front : (j : ℕ) → j ≤ length rs → length (front j) ≡ first_component rs j
    length_front zero h = refl
    length_front (suc j) h =
        let all : length (front (j + 1)) ≡ first_component rs (j + 1) =
        ap length (front_more j (omega arith)) ∙ length-append (front j) (row k rs ls g (front j) bs (get_or rs j True))
        ∙ ap₂ (λ x y. x + y) (length_front j (omega arith)) (length_row (front j) (get_or rs j True)) ∙ sym (first_more rs j (omega arith)) in
        rw add-one at all

    pub front_all : front (length rs) ≡ newest k rs ls g bs
    front_all = ap (λ qs. filled k rs ls g bs qs []) (take_all (length rs) rs (omega arith))

    -- a row over the values with the rows before it written
    pub rows_more : (V S : List T) (j : ℕ) → j < length rs → components rs ≤ length S → length V ≡ first_component rs j → let r = get_or rs j True in
        onto (take (first_component rs j) (onto V S) ++ row k rs ls g (take (first_component rs j) (onto V S)) bs r) (onto V S) ≡ onto (V ++ row k rs ls g V bs r) S
    rows_more V S j within room e =
        let r = get_or rs j True in
        ap (λ U. onto (U ++ row k rs ls g U bs r) (onto V S)) (take_onto V S (first_component rs j) e)
        ∙ onto_onto V (V ++ row k rs ls g V bs r) S (rw (length-append V (row k rs ls g V bs r)) (omega arith))

  -- values at the point before count only at numbers of components
  module _ (bs cs : List T) (sound : Sound rs) (same : (i : ℕ) → i < components rs → get_or bs i k.never ≡ get_or cs i k.never) where
    valued_before : (vs : List T) (j s : ℕ) → j < length rs
        → valued k rs ls g vs bs (get_or rs j True) (first_component rs j) s ≡ valued k rs ls g vs cs (get_or rs j True) (first_component rs j) s
    valued_before vs j s h =
        let r = get_or rs j True in
        ap (evaluated k r s (lettered k ls) (argument k rs vs (left_of r)) (argument k rs vs (right_of r)))
        (before_same bs cs (earlier rs r (first_component rs j) s g) (λ c q. same c (earlier_lt rs sound j h s c g q)))

    front_before : (j : ℕ) → j ≤ length rs → front bs j ≡ front cs j
    front_before zero h = refl
    front_before (suc j) h =
        let r = get_or rs j True in
        let V = front cs j in
        let long : length V ≡ first_component rs j = length_front cs j (omega arith) in
        let l : j < length rs = omega arith in
        let all : front bs (j + 1) ≡ front cs (j + 1) =
        front_more bs j l ∙ ap (λ U. U ++ row k rs ls g U bs r) (front_before j (omega arith))
        ∙ ap (λ f. V ++ map f (range_with_len 0 (shifts r))) (fun_ext (λ s. ap (λ n. valued k rs ls g V bs r n s) long
        ∙ valued_before V j s l ∙ ap (λ n. valued k rs ls g V cs r n s) (sym long)))
        ∙ sym (front_more cs j l) in
        rw add-one at all

    pub newest_before : newest k rs ls g bs ≡ newest k rs ls g cs
    newest_before = sym (front_all bs) ∙ front_before (length rs) (omega arith) ∙ front_all cs

  pub length_newest : (bs : List T) → length (newest k rs ls g bs) ≡ components rs
  length_newest bs = ap length (sym (front_all bs)) ∙ length_front bs (length rs) (omega arith) ∙ first_all rs

  -- the newest values and, behind them, those that are kept
  pub step_made : (S : List T) → 2 * components rs ≤ length S → let n = components rs in let B = kept k (is_first g) n S in
      onto (newest k rs ls g B) (take n S) ++ (B ++ drop n (drop n S)) ≡ advanced k rs g ls S
  step_made S room =
      let n = components rs in
      let B = kept k (is_first g) n S in
      let N = newest k rs ls g B in
      let longN : length N ≡ length (take n S) = length_newest B ∙ sym (length-take-le n S (omega arith)) in
      let longB = length_kept k (is_first g) n S (omega arith) in
      ap (λ X. X ++ (B ++ drop n (drop n S))) (onto_all N (take n S) longN)
      ∙ onto_split N B S n n (length_newest B) longB

  -- each value, from the finished list
  module _ (bs : List T) (sound : Sound rs) where
    front_prefix : (j m : ℕ) → j + m ≤ length rs → (i : ℕ) (d : T) → i < first_component rs j → get_or (front bs (j + m)) i d ≡ get_or (front bs j) i d
    front_prefix j zero h i d l = ap (λ n. get_or (front bs n) i d) (omega arith)
    front_prefix j (suc m) h i d l =
        let next : j + suc m ≡ (j + m) + 1 = omega arith in
        let V = front bs (j + m) in
        let long = length_front bs (j + m) (omega arith) in
        let up = first_up rs j m in
        ap (λ n. get_or (front bs n) i d) next ∙ ap (λ X. get_or X i d) (front_more bs (j + m) (omega arith))
        ∙ get_or_append_left V (row k rs ls g V bs (get_or rs (j + m) True)) d i (omega arith)
        ∙ front_prefix j m (omega arith) i d l

    newest_prefix : (j : ℕ) → j ≤ length rs → (i : ℕ) (d : T) → i < first_component rs j → get_or (newest k rs ls g bs) i d ≡ get_or (front bs j) i d
    newest_prefix j h i d l =
        let all : j + (length rs - j) ≡ length rs = omega arith in
        ap (λ X. get_or X i d) (sym (front_all bs)) ∙ ap (λ n. get_or (front bs n) i d) (sym all) ∙ front_prefix j (length rs - j) (omega arith) i d l

    pub newest_at : (j s : ℕ) → j < length rs → s < shifts (get_or rs j True)
        → get_or (newest k rs ls g bs) (first_component rs j + s) k.never ≡ valued k rs ls g (newest k rs ls g bs) bs (get_or rs j True) (first_component rs j) s
    newest_at j s h l =
        let r = get_or rs j True in
        let V = front bs j in
        let N = newest k rs ls g bs in
        let f : ℕ → T = λ x. valued k rs ls g V bs r (length V) x in
        let long : length V ≡ first_component rs j = length_front bs j (omega arith) in
        let more = first_more rs j h in
        newest_prefix (j + 1) (omega arith) (first_component rs j + s) k.never (omega arith)
        ∙ ap (λ X. get_or X (first_component rs j + s) k.never) (front_more bs j h)
        ∙ ap (λ n. get_or (V ++ row k rs ls g V bs r) (n + s) k.never) (sym long)
        ∙ get_or-append-add V (row k rs ls g V bs r) s k.never
        ∙ get_or-map-range_with_len f 0 (shifts r) s s k.never l (omega arith)
        ∙ ap (λ n. valued k rs ls g V bs r n s) long
        ∙ sym (valued_same N V bs r j (first_component rs j) s (sound j h) (λ a q.
        newest_prefix j (omega arith) (first_component rs a) k.never (first_mono rs a j q h)))
