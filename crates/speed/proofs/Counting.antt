-- Lines counted one after another, and one draw more.
use Rattle.std.proofs.Common.{◌≡◌, ℕ, ◌+◌, ◌*◌, ◌^◌, ◌<◌, ◌≤◌, List, [], ◌∷◌, ◌++◌, length, get_or, take, Ok, sym, refl, ap, ◌∙◌, add-one, arith}
use Rattle.std.proofs.lemmas.List.{length-append, take_all, take-append-le, take_more}
use Rattle.feed.specs.Lists.{onto}
use Rattle.feed.specs.declared.entry.Entry.{Entry}
use Rattle.logic.specs.declared.verdict.Line.{Line}
use Rattle.logic.specs.declared.verdict.Line.TheVariants.{True, False, Joined}
use Rattle.logic.specs.States.{State}
use Rattle.logic.specs.Draws.{draw_answer, draw_lines, draw_rest, draw_state}
use Rattle.logic.proofs.Histories.{lines_counted, tray_enough}
use Rattle.speed.specs.declared.tally.Tally.{Tally}
use Rattle.speed.specs.Tallies.{Course, counted, course, drawn_on, none, size, tallied}

-- each line counts once
size_counted : (t : Tally) (l : Line) → size (counted t l) ≡ size t + 1
size_counted t (True p) = omega arith
size_counted t (False p) = omega arith
size_counted t (Joined p q) = omega arith

pub size_tallied : (t : Tally) (ls : List Line) → size (tallied t ls) ≡ size t + length ls
size_tallied t [] = omega arith
size_tallied t (l ∷ ls) = let one = size_counted t l in let rest = size_tallied (counted t l) ls in omega arith

pub tallied_append : (t : Tally) (xs ys : List Line) → tallied t (xs ++ ys) ≡ tallied (tallied t xs) ys
tallied_append t [] ys = refl
tallied_append t (x ∷ xs) ys = tallied_append (counted t x) xs ys

-- the line at i
pub tallied_more : (t : Tally) (ls : List Line) (i : ℕ) (d : Line) → i < length ls
    → tallied t (take (i + 1) ls) ≡ counted (tallied t (take i ls)) (get_or ls i d)
tallied_more t ls i d h = ap (tallied t) (take_more ls i d h) ∙ tallied_append t (take i ls) (get_or ls i d ∷ [])

-- one draw more
pub course_more : (st : State) (es : List Entry) (k : ℕ) → course st es (k + 1) ≡ drawn_on (course st es k)
unfolding course
course_more st es k = ap (course st es) (add-one k)

-- the lines of a draw that is answered, at the front of the tray
pub given_front : (st : State) (es : List Entry) (m n : ℕ) (tray : List Line) → Ok n ≡ draw_answer st es m → take n (onto (draw_lines st es m) tray) ≡ draw_lines st es m
given_front st es m n tray e =
    let ls = draw_lines st es m in
    ap (λ k. take k (onto ls tray)) (lines_counted st es m n (sym e)) ∙ take-append-le (length ls) ls _ (omega arith) ∙ take_all (length ls) ls (omega arith)

pub given_few : (st : State) (es : List Entry) (m n : ℕ) → Ok n ≡ draw_answer st es m → n ≤ m
given_few st es m n e = let few = tray_enough st es m in let same = lines_counted st es m n (sym e) in omega arith

-- one draw more, and what is then counted
pub record Further (st : State) (es : List Entry) (k : ℕ) (st' : State) (es' : List Entry) (t : Tally) : Type 0 where
  pub few : length (course st es k).lines ≤ 129 * k
  pub state : st' ≡ (course st es k).state
  pub rest : es' ≡ (course st es k).rest
  pub tally : t ≡ tallied none (course st es k).lines

module _ (st : State) (es : List Entry) (k m : ℕ) (st₁ : State) (es₁ : List Entry) (t₁ : Tally) (so_far : Further st es k st₁ es₁ t₁) (long : m ≡ 129) where
  abbrev now : Course
  now = course st es k

  at_now : {X : Type 0} (f : State → List Entry → ℕ → X) → f st₁ es₁ m ≡ f now.state now.rest 129
  at_now f = ap (λ x. f x es₁ m) so_far.state ∙ ap (λ x. f now.state x m) so_far.rest ∙ ap (f now.state now.rest) long

  pub further : (st₂ : State) (es₂ : List Entry) (t₂ : Tally) → st₂ ≡ draw_state st₁ es₁ m → es₂ ≡ draw_rest st₁ es₁ m
      → t₂ ≡ tallied t₁ (draw_lines st₁ es₁ m) → Further st es (k + 1) st₂ es₂ t₂
  further st₂ es₂ t₂ s r t =
      let more = course_more st es k in
      let lines = ap (λ (x : Course). x.lines) more in
      let enough = tray_enough now.state now.rest 129 in
      let long = ap length lines ∙ length-append now.lines (draw_lines now.state now.rest 129) in
      record {
        few = let before = so_far.few in omega arith;
        state = s ∙ at_now draw_state ∙ sym (ap (λ (x : Course). x.state) more);
        rest = r ∙ at_now draw_rest ∙ sym (ap (λ (x : Course). x.rest) more);
        tally =
            t ∙ ap (tallied t₁) (at_now draw_lines) ∙ ap (λ x. tallied x (draw_lines now.state now.rest 129)) so_far.tally
            ∙ sym (tallied_append none now.lines (draw_lines now.state now.rest 129))
            ∙ sym (ap (tallied none) lines);
      }

  pub room : (n : ℕ) → n ≤ 129 → k < 2 ^ 32 → size t₁ + n < 2 ^ 64
  room n few low =
      let counted = ap size so_far.tally ∙ size_tallied none now.lines in
      let before = so_far.few in
      omega arith
