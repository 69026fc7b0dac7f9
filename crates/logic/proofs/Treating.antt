-- The points that a draw treats are treated as the law of runs has it, and held points are carried.
use Rattle.std.proofs.Common.{◌≡◌, ℕ, suc, ◌+◌, ◌<◌, ◌≤◌, Bool, true, false, cond, List, [], ◌∷◌, ◌++◌, map, length, Some, None, Option, sym, refl, ap, ◌∙◌, subst, arith}
use Rattle.std.specs.List.{ContainsAt as Has, AllByRecursion}
use Rattle.std.proofs.lemmas.List.{append-nil, append_assoc, length_push}
use Rattle.std.proofs.ByRecursion.{All-append, all-has, All-weaker, has_append_left, has_append_right, has_push}
use Rattle.std.proofs.lemmas.Bool.{both_ways}
use Rattle.truth.specs.declared.table.Condition.{Condition}
use Rattle.truth.specs.Words.{wait_count}
use Rattle.truth.specs.Tables.{openly}
use Rattle.rule.specs.declared.record.Record.{Record}
use Rattle.rule.specs.Components.{waits}
use Rattle.logic.specs.declared.verdict.Point.{Point}
use Rattle.logic.specs.declared.verdict.HeldPoint.{HeldPoint}
use Rattle.logic.specs.declared.verdict.Line.{Line}
use Rattle.logic.specs.declared.verdict.Line.TheVariants.{True, False, Joined}
use Rattle.logic.specs.Logic.{Accepted, Not}
use Rattle.logic.specs.Tables.{Earlier}
use Rattle.logic.specs.Waits.{open_at, replaced}
use Rattle.logic.specs.Flat.{Different}
use Rattle.logic.specs.Numbers.{Looks, Represents}
use Rattle.logic.specs.Runs.{Verdict, true_at, false_at, joined, Treats, none_left, is_true, is_false, is_same, is_open}
use Rattle.logic.specs.Names.{name_of, line_of}
use Rattle.logic.specs.Draws.{among, alike, found, carried_points, Treated, said, joined_or_held, treated, treated_all}
use Rattle.logic.specs.Histories.{Stands, Stand}
use Rattle.logic.proofs.Locality.{local_table}
use Rattle.logic.proofs.Carrying.{carried_table}
use Rattle.logic.proofs.Names.{name_stays}
use Rattle.logic.proofs.Represented.{always_represents, never_represents, alike_agree, agree_alike, replaced_represents}

pub has_first : {X : Type 0} (x : X) (xs : List X) → Has (x ∷ xs) x
has_first x xs = (0, omega arith, λ d. refl)

pub has_later : {X : Type 0} (y : X) (xs : List X) (x : X) → Has xs x → Has (y ∷ xs) x
has_later y xs x h = has_append_right (y ∷ []) xs x h

-- points one after another, and how many lines and held points there are
pub treated_append : (t : Treated) (hs ks : List HeldPoint) → treated_all t (hs ++ ks) ≡ treated_all (treated_all t hs) ks
treated_append t [] ks = refl
treated_append t (h ∷ hs) ks = treated_append (treated t h) hs ks

treated_one : (t : Treated) (h : HeldPoint) → length (treated t h).lines + length (treated t h).held ≡ length t.lines + length t.held + 1
treated_one t h =
    go (alike h.condition openly.always) (alike h.condition openly.never) (found h.condition t.held)
  where
    go : (x y : Bool) (o : Option Point) →
        length (cond x (said t (True h.point)) (cond y (said t (False h.point)) (joined_or_held t h o))).lines
        + length (cond x (said t (True h.point)) (cond y (said t (False h.point)) (joined_or_held t h o))).held ≡ length t.lines + length t.held + 1
    go true y o = let a = length_push t.lines (True h.point) in omega arith
    go false true o = let a = length_push t.lines (False h.point) in omega arith
    go false false None = let a = length_push t.held h in omega arith
    go false false (Some q) = let a = length_push t.lines (Joined h.point q) in omega arith

pub treated_total : (t : Treated) (hs : List HeldPoint) → length (treated_all t hs).lines + length (treated_all t hs).held ≡ length t.lines + length t.held + length hs
treated_total t [] = omega arith
treated_total t (h ∷ hs) = let a = treated_one t h in let b = treated_total (treated t h) hs in omega arith

pub carried_long : (ws : List Condition) (hs : List HeldPoint) → length (carried_points ws hs) ≡ length hs
carried_long ws [] = refl
carried_long ws (h ∷ hs) = ap suc (carried_long ws hs)

module _ (rs : List Record) (ps : List (Accepted Bool)) where
  pub stand_append : (hs ks : List HeldPoint) (is js : List ℕ) → Stand rs ps hs is → Stand rs ps ks js → Stand rs ps (hs ++ ks) (is ++ js)
  stand_append [] ks [] js a b = b
  stand_append [] ks (i ∷ is) js a b = absurd a
  stand_append (h ∷ hs) ks [] js a b = absurd a
  stand_append (h ∷ hs) ks (i ∷ is) js a b = (a.0, stand_append hs ks is js a.1 b)

  pub stand_long : (hs : List HeldPoint) (is : List ℕ) → Stand rs ps hs is → length hs ≡ length is
  stand_long [] [] a = refl
  stand_long [] (i ∷ is) a = absurd a
  stand_long (h ∷ hs) [] a = absurd a
  stand_long (h ∷ hs) (i ∷ is) a = ap suc (stand_long hs is a.1)

module _ (rs : List Record) (few : waits rs ≤ wait_count) (ps : List (Accepted Bool)) where
  pub looks : (i : ℕ) → Looks wait_count (open_at rs ps i)
  looks i v u h = local_table rs ps i v u (λ w lt. h w (omega arith))

  -- the tests of one point
  module _ (h : HeldPoint) (i : ℕ) (s : Stands rs ps h i) where
    true_yes : alike h.condition openly.always ≡ true → (v : ℕ → Bool) → open_at rs ps i v ≡ true
    true_yes e = alike_agree h.condition openly.always (open_at rs ps i) (λ v. true) s.tabled always_represents (looks i) (λ v u k. refl) e

    true_no : alike h.condition openly.always ≡ false → Not ((v : ℕ → Bool) → open_at rs ps i v ≡ true)
    true_no e a = both_ways (alike h.condition openly.always) e (agree_alike h.condition openly.always (open_at rs ps i) (λ v. true) s.tabled always_represents a)

    false_yes : alike h.condition openly.never ≡ true → (v : ℕ → Bool) → open_at rs ps i v ≡ false
    false_yes e = alike_agree h.condition openly.never (open_at rs ps i) (λ v. false) s.tabled never_represents (looks i) (λ v u k. refl) e

    false_no : alike h.condition openly.never ≡ false → Not ((v : ℕ → Bool) → open_at rs ps i v ≡ false)
    false_no e a = both_ways (alike h.condition openly.never) e (agree_alike h.condition openly.never (open_at rs ps i) (λ v. false) s.tabled never_represents a)

    same_yes : (k : HeldPoint) (j : ℕ) → Stands rs ps k j → alike h.condition k.condition ≡ true → (v : ℕ → Bool) → open_at rs ps i v ≡ open_at rs ps j v
    same_yes k j t e = alike_agree h.condition k.condition (open_at rs ps i) (open_at rs ps j) s.tabled t.tabled (looks i) (looks j) e

    same_no : (k : HeldPoint) (j : ℕ) → Stands rs ps k j → alike h.condition k.condition ≡ false → Different rs ps j i
    same_no k j t e a =
        both_ways (alike h.condition k.condition) e
        (agree_alike h.condition k.condition (open_at rs ps i) (open_at rs ps j) s.tabled t.tabled (λ v. sym (a v)))

    -- what is found, and what is not
    record Found (is : List ℕ) (q : Point) : Type 0 where
      number : ℕ
      there : Has is number
      named : q ≡ name_of ps number
      same : (v : ℕ → Bool) → open_at rs ps i v ≡ open_at rs ps number v

    abbrev Sought : List ℕ → Option Point → Type 0
    Sought is None = AllByRecursion (λ j. Different rs ps j i) is
    Sought is (Some q) = Found is q

    sought : (hs : List HeldPoint) (is : List ℕ) → Stand rs ps hs is → Sought is (found h.condition hs)
    sought [] [] a = tt
    sought [] (j ∷ js) a = absurd a
    sought (k ∷ ks) [] a = absurd a
    sought (k ∷ ks) (j ∷ js) a = go (alike h.condition k.condition) refl (found h.condition ks) (sought ks js a.1)
      where
        go : (b : Bool) → alike h.condition k.condition ≡ b → (o : Option Point) → Sought js o → Sought (j ∷ js) (cond b (Some k.point) o)
        go true e o f = record { number = j; there = has_first j js; named = a.0.named; same = same_yes k j a.0 e }
        go false e None f = (same_no k j a.0 e, f)
        go false e (Some q) f = record { number = f.number; there = has_later j js f.number f.there; named = f.named; same = f.same }

  -- points that are treated after others, of which those in `keys` are held
  pub record Outcome (keys kept is : List ℕ) (before after : Treated) : Type 0 where
    pub verdicts : List Verdict
    pub held : List ℕ
    pub treats : Treats rs ps keys is verdicts held
    pub lines : after.lines ≡ before.lines ++ map (line_of ps) verdicts
    pub stand : Stand rs ps after.held (kept ++ held)

  -- a line more
  line_more : (xs : List Line) (l m : Line) (ys zs : List Line) → zs ≡ (xs ++ (l ∷ [])) ++ ys → l ≡ m → zs ≡ xs ++ (m ∷ ys)
  line_more xs l m ys zs e q = e ∙ append_assoc xs (l ∷ []) ys ∙ ap (λ x. xs ++ (x ∷ ys)) q

  pub treats_all : (hs : List HeldPoint) (is : List ℕ) → Stand rs ps hs is → (t : Treated) (kept keys : List ℕ) → Stand rs ps t.held kept →
      AllByRecursion (Has kept) keys → AllByRecursion (Has keys) kept → Outcome keys kept is t (treated_all t hs)
  treats_all [] [] a t kept keys s sub sup = record {
    verdicts = [];
    held = [];
    treats = none_left;
    lines = sym (append-nil t.lines);
    stand = subst (Stand rs ps t.held) (sym (append-nil kept)) s;
  }
  treats_all [] (i ∷ is) a t kept keys s sub sup = absurd a
  treats_all (h ∷ hs) [] a t kept keys s sub sup = absurd a
  treats_all (h ∷ hs) (i ∷ is) a t kept keys s sub sup =
      go (alike h.condition openly.always) refl (alike h.condition openly.never) refl (found h.condition t.held) (sought h i a.0 t.held kept s)
      (treats_all hs is a.1)
    where
      go : (x : Bool) → alike h.condition openly.always ≡ x → (y : Bool) → alike h.condition openly.never ≡ y → (o : Option Point) → Sought h i a.0 kept o →
          ((t : Treated) (kept keys : List ℕ) → Stand rs ps t.held kept → AllByRecursion (Has kept) keys → AllByRecursion (Has keys) kept → Outcome keys kept is t (treated_all t hs)) →
          Outcome keys kept (i ∷ is) t (treated_all (cond x (said t (True h.point)) (cond y (said t (False h.point)) (joined_or_held t h o))) hs)
      go true ex y ey o f rec =
          let u = said t (True h.point) in
          let r = rec u kept keys s sub sup in
          record {
            verdicts = true_at i ∷ r.verdicts;
            held = r.held;
            treats = is_true (true_yes h i a.0 ex) r.treats;
            lines = line_more t.lines (True h.point) (True (name_of ps i)) (map (line_of ps) r.verdicts) (treated_all u hs).lines r.lines (ap True a.0.named);
            stand = r.stand;
          }
      go false ex true ey o f rec =
          let u = said t (False h.point) in
          let r = rec u kept keys s sub sup in
          record {
            verdicts = false_at i ∷ r.verdicts;
            held = r.held;
            treats = is_false (false_yes h i a.0 ey) r.treats;
            lines = line_more t.lines (False h.point) (False (name_of ps i)) (map (line_of ps) r.verdicts) (treated_all u hs).lines r.lines (ap False a.0.named);
            stand = r.stand;
          }
      go false ex false ey None f rec =
          let u = joined_or_held t h None in
          let new = kept ++ (i ∷ []) in
          let r = rec u new (i ∷ keys) (stand_append rs ps t.held (h ∷ []) kept (i ∷ []) s (a.0, tt))
          (has_push kept i, All-weaker (Has kept) (Has new) (λ n k. has_append_left kept (i ∷ []) n k) keys sub)
          (All-append (Has (i ∷ keys)) kept (i ∷ []) (All-weaker (Has keys) (Has (i ∷ keys)) (λ n k. has_later i keys n k) kept sup) (has_first i keys, tt)) in
          record {
            verdicts = r.verdicts;
            held = i ∷ r.held;
            treats = is_open (true_no h i a.0 ex) (false_no h i a.0 ey)
                (All-weaker (Has kept) (λ j. Different rs ps j i) (λ j k. all-has (λ n. Different rs ps n i) kept j f k) keys sub) r.treats;
            lines = r.lines;
            stand = subst (Stand rs ps (treated_all u hs).held) (append_assoc kept (i ∷ []) r.held) r.stand;
          }
      go false ex false ey (Some q) f rec =
          let u = said t (Joined h.point q) in
          let r = rec u kept keys s sub sup in
          let j = f.number in
          record {
            verdicts = joined i j ∷ r.verdicts;
            held = r.held;
            treats = is_same (all-has (Has keys) kept j sup f.there) f.same r.treats;
            lines = line_more t.lines (Joined h.point q) (Joined (name_of ps i) (name_of ps j)) (map (line_of ps) r.verdicts) (treated_all u hs).lines r.lines
                (ap (λ x. Joined x q) a.0.named ∙ ap (Joined (name_of ps i)) f.named);
            stand = r.stand;
          }

-- held points are carried to a new one
module _ (rs : List Record) (sound : Earlier rs) (few : waits rs ≤ wait_count) (p : Accepted Bool) (ps : List (Accepted Bool)) (ws : List Condition)
    (became : (w : ℕ) → w < waits rs → Represents (among ws w) (λ v. replaced rs p ps v w)) where
  stands_carried : (h : HeldPoint) (i : ℕ) (c : Condition) → i < length ps → Stands rs ps h i → Represents c (λ v. open_at rs ps i (replaced rs p ps v)) →
      Stands rs (p ∷ ps) (record { point = h.point; condition = c }) i
  stands_carried h i c lt s r = record {
    named = s.named ∙ sym (name_stays p ps i lt);
    tabled = λ n k. r n k ∙ sym (carried_table rs sound p ps i _ lt);
  }

  pub stand_carried : (hs : List HeldPoint) (is : List ℕ) → AllByRecursion (λ i. i < length ps) is → Stand rs ps hs is → Stand rs (p ∷ ps) (carried_points ws hs) is
  stand_carried [] [] l a = tt
  stand_carried [] (i ∷ is) l a = absurd a
  stand_carried (h ∷ hs) [] l a = absurd a
  stand_carried (h ∷ hs) (i ∷ is) l a = (
    stands_carried h i _ l.0 a.0
        (replaced_represents ws h.condition (waits rs) (open_at rs ps i) (replaced rs p ps) few a.0.tabled (λ v u. local_table rs ps i v u) became),
    stand_carried hs is l.1 a.1,
  )
