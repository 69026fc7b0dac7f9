-- The bytes of reports: of lists put together, of held points one by one, and of a card entry by entry.
use Rattle.std.proofs.Common.{◌≡◌, ℕ, zero, suc, ◌+◌, ◌-◌, ◌<◌, ◌≤◌, true, false, cond, List, [], ◌∷◌, ◌++◌, map, length, get_or, take, drop, is_ok, Some, None, Ok, Err, Result, sym, refl, ap, ◌∙◌, subst, ap₂, add-one, arith, MatchResult}
use Rattle.std.proofs.lemmas.List.{append_assoc, append-nil, map-append, take_more}
use Rattle.feed.specs.declared.entry.Entry.{Entry}
use Rattle.feed.specs.Lists.{onto, some_left}
use Rattle.feed.proofs.Onto.{take_onto}
use Rattle.logic.specs.declared.verdict.HeldPoint.{HeldPoint}
use Rattle.logic.specs.declared.verdict.Line.{Line}
use Rattle.logic.specs.declared.verdict.Point.{Point}
use Rattle.logic.specs.States.{State}
use Rattle.logic.specs.Draws.{draw_answer, draw_lines, draw_rest, draw_state, name_at}
use Rattle.lines.specs.Reports.{line_bytes}
use Rattle.lines.specs.declared.report.Report.{Report}
use Rattle.lines.specs.declared.report.Report.TheVariants as report
use Rattle.printing.specs.Reports.{card_reports, counts_report, draw_reports, ending, held_reports, printed, tray_lines}
use Rattle.printing.proofs.Draws.{draw_took}

pub printed_append : (xs ys : List Report) → printed (xs ++ ys) ≡ printed xs ++ printed ys
printed_append [] ys = refl
printed_append (x ∷ xs) ys = ap (λ z. line_bytes x ++ z) (printed_append xs ys) ∙ sym (append_assoc (line_bytes x) (printed xs) (printed ys))

-- a text after something was put behind it, or where there was no memory
pub put_cases : {T E : Type 0} (r : Result T E) (x a b : List ℕ) → x ≡ cond (is_ok r) a b → MatchResult r (λ _. x ≡ a) (λ _. x ≡ b)
put_cases (Ok u) x a b e = e
put_cases (Err f) x a b e = e

-- the front of a tray that some were written to
pub front_is : {T : Type 0} (A S R : List T) (n : ℕ) → R ≡ onto A S → n ≡ length A → take (n - 0) R ≡ A
front_is A S R n e f = ap (take (n - 0)) e ∙ take_onto A S (n - 0) (omega arith)

-- one line more
pub lines_more : (ls : List Line) (i : ℕ) (d : Line) → i < length ls → (text more start : List ℕ) → text ≡ start ++ printed (map report.Line (take i ls))
    → more ≡ text ++ line_bytes (report.Line (get_or ls i d)) → more ≡ start ++ printed (map report.Line (take (i + 1) ls))
lines_more ls i d h text more start e f =
    let l = get_or ls i d in
    let whole : printed (map report.Line (take (i + 1) ls)) ≡ printed (map report.Line (take i ls)) ++ line_bytes (report.Line l) =
    ap (λ x. printed (map report.Line x)) (take_more ls i d h)
    ∙ ap printed (map-append report.Line (take i ls) (l ∷ []))
    ∙ printed_append (map report.Line (take i ls)) (report.Line l ∷ [])
    ∙ ap (λ z. printed (map report.Line (take i ls)) ++ z) (append-nil (line_bytes (report.Line l))) in
    f ∙ ap (λ z. z ++ line_bytes (report.Line l)) e ∙ append_assoc start (printed (map report.Line (take i ls))) (line_bytes (report.Line l)) ∙ ap (λ z. start ++ z) (sym whole)

-- one held point more, and none
held_next : (hs : List HeldPoint) (k : ℕ) (p : Point) → Some p ≡ name_at hs k → held_reports (drop k hs) ≡ report.Held p ∷ held_reports (drop (suc k) hs)
held_next [] k p e = let z : ◌≡◌ {A = ℕ} 0 1 = cc in absurd (omega arith)
held_next (h ∷ hs) zero p e = let same : h.point ≡ p = cc in ap (λ x. report.Held x ∷ held_reports hs) same
held_next (h ∷ hs) (suc k) p e = held_next hs k p e

held_within : (hs : List HeldPoint) (k : ℕ) (p : Point) → Some p ≡ name_at hs k → k < length hs
held_within [] k p e = let z : ◌≡◌ {A = ℕ} 0 1 = cc in absurd (omega arith)
held_within (h ∷ hs) zero p e = omega arith
held_within (h ∷ hs) (suc k) p e = let m = held_within hs k p e in omega arith

pub held_none : (hs : List HeldPoint) (k : ℕ) → None ≡ name_at hs k → held_reports (drop k hs) ≡ []
held_none [] zero e = refl
held_none [] (suc k) e = refl
held_none (h ∷ hs) zero e = let z : ◌≡◌ {A = ℕ} 0 1 = cc in absurd (omega arith)
held_none (h ∷ hs) (suc k) e = held_none hs k e

pub held_some : {A : Type 0} (hs : List HeldPoint) (k : ℕ) → k < length hs → None ≡ name_at hs k → A
held_some [] k l e = absurd (omega arith)
held_some (h ∷ hs) zero l e = cc
held_some (h ∷ hs) (suc k) l e = held_some hs k (omega arith) e

pub held_more : (hs : List HeldPoint) (k : ℕ) (p : Point) → Some p ≡ name_at hs k → (text more whole : List ℕ) → text ++ printed (held_reports (drop k hs)) ≡ whole
    → more ≡ text ++ line_bytes (report.Held p) → (more ++ printed (held_reports (drop (k + 1) hs)) ≡ whole) × (k < length hs)
held_more hs k p e text more whole inv f =
    let rest = printed (held_reports (drop (suc k) hs)) in (
      (rw add-one (ap (λ z. z ++ rest) f ∙ append_assoc text (line_bytes (report.Held p)) rest ∙ ap (λ z. text ++ printed z) (sym (held_next hs k p e)) ∙ inv)),
      held_within hs k p e,
    )

-- one entry more of a card
pub record Step (tray : ℕ) (st : State) (es : List Entry) : Type 0 where
  pub count : (draw_state st es tray).drawn + length (draw_rest st es tray) ≤ st.drawn + length es
  pub falls : length (draw_rest st es tray) < length es
  pub prints : printed (card_reports st es) ≡ printed (draw_reports (draw_answer st es tray) (draw_lines st es tray)) ++ printed (card_reports (draw_state st es tray) (draw_rest st es tray))

long_step : (st : State) (es : List Entry) → true ≡ some_left es → st.drawn + length es ≤ 10000 → length st.held < tray_lines → Step tray_lines st es
long_step st [] e n h = let z : ◌≡◌ {A = ℕ} 0 1 = cc in absurd (omega arith)
long_step st (e ∷ es) q n h =
    let took = draw_took st e es tray_lines (omega arith) h in
    let now = draw_reports (draw_answer st (e ∷ es) tray_lines) (draw_lines st (e ∷ es) tray_lines) in
    let st' = draw_state st (e ∷ es) tray_lines in
    let rest = took.rest in
    let long = ap length rest in
    let count = took.counted in
    record {
      count = omega arith;
      falls = omega arith;
      prints = printed_append now (card_reports st' es) ∙ ap (λ x. printed now ++ printed (card_reports st' x)) (sym rest);
    }

pub card_step : (tray : ℕ) → tray ≡ tray_lines → (st : State) (es : List Entry) → true ≡ some_left es → st.drawn + length es ≤ 10000 → length st.held < tray_lines → Step tray st es
card_step tray t st es e n h = subst (λ x. Step x st es) (sym t) (long_step st es e n h)

pub card_more : (tray : ℕ) (st st' : State) (es es' : List Entry) (text more whole : List ℕ) → Step tray st es → st' ≡ draw_state st es tray → es' ≡ draw_rest st es tray
    → more ≡ text ++ printed (draw_reports (draw_answer st es tray) (draw_lines st es tray)) → text ++ printed (card_reports st es) ≡ whole → more ++ printed (card_reports st' es') ≡ whole
card_more tray st st' es es' text more whole s a b e inv =
    let now = printed (draw_reports (draw_answer st es tray) (draw_lines st es tray)) in
    let rest = printed (card_reports (draw_state st es tray) (draw_rest st es tray)) in
    ap₂ (λ x y. more ++ printed (card_reports x y)) a b ∙ ap (λ z. z ++ rest) e ∙ append_assoc text now rest ∙ ap (λ z. text ++ z) (sym s.prints) ∙ inv

-- the end of a card
pub card_end : (st : State) (es : List Entry) (text held whole start : List ℕ) → false ≡ some_left es → held ≡ text ++ printed (held_reports st.held)
    → whole ≡ held ++ line_bytes (counts_report st) → text ++ printed (card_reports st es) ≡ start → whole ≡ start
card_end st [] text held whole start e a b inv =
    let points = printed (held_reports st.held) in
    let counts = line_bytes (counts_report st) in
    let all : printed (ending st) ≡ points ++ counts = printed_append (held_reports st.held) (counts_report st ∷ []) ∙ ap (λ z. points ++ z) (append-nil counts) in
    b ∙ ap (λ z. z ++ counts) a ∙ append_assoc text points counts ∙ ap (λ z. text ++ z) (sym all) ∙ inv
card_end st (x ∷ es) text held whole start e a b inv = let z : ◌≡◌ {A = ℕ} 0 1 = cc in absurd (omega arith)
