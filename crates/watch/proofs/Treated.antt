-- One point more of those that a draw treats.
use Rattle.std.proofs.Common.{◌≡◌, ℕ, ◌+◌, ◌-◌, ◌<◌, ◌≤◌, Bool, true, false, cond, List, [], ◌∷◌, ◌++◌, length, get_or, take, drop, set, Some, None, Option, sym, refl, ap, ◌∙◌, subst, add-zero, arith}
use Rattle.std.proofs.lemmas.List.{drop-drop, drop-set-lt, get_or-drop, length_push, length-set, take_all, take_at, take_more, take_more_set}
use Rattle.feed.specs.Lists.{onto}
use Rattle.feed.proofs.Onto.{onto_more}
use Rattle.truth.specs.Tables.{openly}
use Rattle.logic.specs.declared.verdict.HeldPoint.{HeldPoint}
use Rattle.logic.specs.declared.verdict.Line.{Line}
use Rattle.logic.specs.declared.verdict.Line.TheVariants.{True, False}
use Rattle.logic.specs.declared.verdict.Point.{Point}
use Rattle.logic.specs.Draws.{Treated, alike, found, joined_or_held, said, treated, treated_all}
use Rattle.watch.specs.Treatments.{joined_to, untreated, verdict_on}

-- a point treated by its line
abbrev by_line : Treated → HeldPoint → Option Line → Treated
by_line t h None = record { lines = t.lines; held = t.held ++ (h ∷ []) }
by_line t h (Some l) = said t l

by_find : (t : Treated) (h : HeldPoint) (o : Option Point) → joined_or_held t h o ≡ by_line t h (joined_to h o)
by_find t h None = refl
by_find t h (Some p) = refl

by_tests : (t : Treated) (h : HeldPoint) (a b : Bool) (o : Option Point) →
    cond a (said t (True h.point)) (cond b (said t (False h.point)) (joined_or_held t h o))
    ≡ by_line t h (cond a (Some (True h.point)) (cond b (Some (False h.point)) (joined_to h o)))
by_tests t h true b o = refl
by_tests t h false true o = refl
by_tests t h false false o = by_find t h o

treated_by : (t : Treated) (h : HeldPoint) → treated t h ≡ by_line t h (verdict_on t.held h)
treated_by t h = by_tests t h (alike h.condition openly.always) (alike h.condition openly.never) (found h.condition t.held)

treated_push : (t : Treated) (xs : List HeldPoint) (x : HeldPoint) → treated_all t (xs ++ (x ∷ [])) ≡ treated (treated_all t xs) x
treated_push t [] x = refl
treated_push t (y ∷ xs) x = treated_push (treated t y) xs x

-- the first i of the points xs are treated: those that stay held are the first of P, and the lines are the first of R
pub record Progress (xs : List HeldPoint) (S : List Line) (i : ℕ) (P : List HeldPoint) (R : List Line) (count : ℕ) : Type 0 where
  pub long : length P ≡ length xs
  pub room : length R ≡ length S
  pub sum : count + length (treated_all untreated (take i xs)).lines ≡ i
  pub held : take count P ≡ (treated_all untreated (take i xs)).held
  pub rest : drop i P ≡ drop i xs
  pub tray : R ≡ onto (treated_all untreated (take i xs)).lines S

module _ (xs : List HeldPoint) (S : List Line) (i : ℕ) (P : List HeldPoint) (R : List Line) (count : ℕ) (p : Progress xs S i P R count)
    (lt : i < length xs) (space : length xs ≤ length S) (d : HeldPoint) where
  abbrev now : Treated
  now = treated_all untreated (take i xs)

  abbrev next : Treated
  next = treated_all untreated (take (i + 1) xs)

  same_point : get_or P i d ≡ get_or xs i d
  same_point =
      ap (λ n. get_or P n d) (sym (add-zero i)) ∙ sym (get_or-drop i P 0 d) ∙ ap (λ l. get_or l 0 d) p.rest
      ∙ get_or-drop i xs 0 d ∙ ap (λ n. get_or xs n d) (add-zero i)

  -- the next point, by its line
  stepped : (o : Option Line) → o ≡ verdict_on (take count P) (get_or P i d) → next ≡ by_line now (get_or P i d) o
  stepped o e =
      ap (treated_all untreated) (take_more xs i d lt) ∙ treated_push untreated (take i xs) (get_or xs i d)
      ∙ ap (treated now) (sym same_point) ∙ treated_by now (get_or P i d)
      ∙ ap (by_line now (get_or P i d)) (ap (λ l. verdict_on l (get_or P i d)) (sym p.held) ∙ sym e)

  rest_on : drop (i + 1) P ≡ drop (i + 1) xs
  rest_on = sym (drop-drop 1 i P) ∙ ap (drop 1) p.rest ∙ drop-drop 1 i xs

  pub said_on : (l : Line) → Some l ≡ verdict_on (take count P) (get_or P i d) → Progress xs S (i + 1) P (set R (i - count) l) count
  said_on l e =
      let step = stepped (Some l) e in
      let sum = p.sum in
      let given : length now.lines ≡ i - count = omega arith in
      let more = length_push now.lines l in
      let lines = ap (λ (t : Treated). length t.lines) step in
      record {
        long = p.long;
        room = length-set R (i - count) l ∙ p.room;
        sum = omega arith;
        held = p.held ∙ sym (ap (λ (t : Treated). t.held) step);
        rest = rest_on;
        tray =
            ap (λ x. set x (i - count) l) p.tray ∙ onto_more now.lines S (i - count) l given (omega arith)
            ∙ sym (ap (λ (t : Treated). onto t.lines S) step);
      }

  pub held_on : None ≡ verdict_on (take count P) (get_or P i d) → Progress xs S (i + 1) (set P count (get_or P i d)) R (count + 1)
  held_on e =
      let step = stepped None e in
      let sum = p.sum in
      let long = p.long in
      let lines = ap (λ (t : Treated). length t.lines) step in
      record {
        long = length-set P count (get_or P i d) ∙ p.long;
        room = p.room;
        sum = omega arith;
        held =
            take_more_set P count (get_or P i d) (omega arith) ∙ ap (λ l. l ++ (get_or P i d ∷ [])) p.held
            ∙ sym (ap (λ (t : Treated). t.held) step);
        rest = drop-set-lt (i + 1) P count (get_or P i d) (omega arith) ∙ rest_on;
        tray = p.tray ∙ sym (ap (λ (t : Treated). onto t.lines S) step);
      }

-- the same progress in other words
pub progress_as : (xs : List HeldPoint) (S : List Line) (i : ℕ) (P P' : List HeldPoint) (R R' : List Line) (count count' : ℕ) →
    Progress xs S i P R count → P' ≡ P → R' ≡ R → count' ≡ count → Progress xs S i P' R' count'
progress_as xs S i P P' R R' count count' p e f g =
    subst (λ x. Progress xs S i x R' count') (sym e)
    (subst (λ x. Progress xs S i P x count') (sym f)
    (subst (λ x. Progress xs S i P R x) (sym g) p))

pub progress_none : (xs : List HeldPoint) (S : List Line) → Progress xs S 0 xs S 0
progress_none xs S = record { long = refl; room = refl; sum = refl; held = refl; rest = refl; tray = refl }

-- all points are treated
pub all_of : (xs : List HeldPoint) (i : ℕ) → length xs ≤ i → treated_all untreated (take i xs) ≡ treated_all untreated xs
all_of xs i h = ap (treated_all untreated) (take_all i xs h)

-- the points that are treated: those that were carried, at the front of a table, and then the new one
pub with_new : (C rest ys : List HeldPoint) (n : ℕ) (new : HeldPoint) → C ≡ ys → length C ≡ n → n < length (C ++ rest)
    → take (n + 1) (set (C ++ rest) n new) ≡ ys ++ (new ∷ [])
with_new C rest ys n new e long lt = take_more_set (C ++ rest) n new lt ∙ ap (λ l. l ++ (new ∷ [])) (take_at C rest n long ∙ e)
