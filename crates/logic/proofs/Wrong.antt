-- Watches that are wrong keep no promise.
use Rattle.std.proofs.Common.{◌≡◌, ℕ, zero, suc, ◌+◌, ◌<◌, ◌≤◌, Bool, true, false, cond, eqb, ltb, leb, List, [], ◌∷◌, map, length, Ok, Err, count_by, sym, refl, ap, ◌∙◌, subst, arith}
use Rattle.std.specs.List.{AllByRecursion}
use Rattle.std.proofs.lemmas.Bool.{cond-true, eqb-true, le-leb, leb-false, lt-ltb}
use Rattle.feed.specs.declared.entry.Entry.{Entry}
use Rattle.feed.specs.declared.entry.Sample.{Sample}
use Rattle.rule.specs.declared.record.Record.{Record}
use Rattle.logic.specs.declared.refusal.DrawRefusal.TheVariants.{Tray, Ended, Slots}
use Rattle.logic.specs.declared.verdict.HeldPoint.{HeldPoint}
use Rattle.logic.specs.declared.verdict.Line.{Line}
use Rattle.logic.specs.declared.verdict.Line.TheVariants.{True, Joined}
use Rattle.logic.specs.Logic.{Stream, Sat, Accepted, Begins, Not}
use Rattle.logic.specs.Tables.{formulas, rule}
use Rattle.logic.specs.Conditions.{condition, newest, of_point}
use Rattle.logic.specs.Waits.{settings}
use Rattle.logic.specs.Verdicts.{Rising}
use Rattle.logic.specs.Flat.{Undecided}
use Rattle.logic.specs.Names.{name_of, line_of}
use Rattle.logic.specs.Runs.{Verdict, true_at, false_at, joined, Truthful}
use Rattle.logic.specs.States.{State, fitted}
use Rattle.logic.specs.Draws.{Drawn, draw, draw_answer, drawn_entry, filled_at, to_treat, treatment, turned_away, unaltered}
use Rattle.logic.specs.Examples.{at}
use Rattle.logic.specs.Histories.{Stand, joins_two, point_of, points_of, settles_one}
use Rattle.logic.specs.Wrong.{WrongWatchesFail, lit, seen, taken}
use Rattle.logic.proofs.Cases.{accepting, content_by, draw_by}
use Rattle.logic.proofs.Continued.{continues}
use Rattle.logic.proofs.Treating.{treated_total}

no : {A : Type 0} → ◌≡◌ {A = ℕ} 0 1 → A
no e = absurd (omega arith)

-- the rule is true at a point of the stream exactly if that has letter 0
lit_sat : (ρ : Stream Bool) (i : ℕ) → Sat ρ (rule lit) i → ρ.letters i 0 ≡ true
unfolding formulas
lit_sat ρ i s = s

sat_lit : (ρ : Stream Bool) (i : ℕ) → ρ.letters i 0 ≡ true → Sat ρ (rule lit) i
unfolding formulas
sat_lit ρ i s = s

true_false : {A : Type 0} (b : Bool) → b ≡ true → b ≡ false → A
true_false b p q = no (let z : ◌≡◌ {A = ℕ} (cond true 0 1) (cond false 0 1) = ap (λ x. cond x 0 1) (sym p ∙ q) in z)

-- a point at the stamp 5 that is named
named_first : (b : Bool) → at 5 0 ≡ cond b (at 5 0) (at 0 0) → b ≡ true
named_first true e = refl
named_first false e = let z : ◌≡◌ {A = ℕ} 5 0 = ap (λ p. p.stamp) e in absurd (omega arith)

named_older : (a b : Bool) → at 5 0 ≡ cond a (at 5 1) (cond b (at 5 0) (at 0 0)) → b ≡ true
named_older true b e = let z : ◌≡◌ {A = ℕ} 0 1 = ap (λ p. p.offset) e in no z
named_older false b e = named_first b e

named_newer : (a b : Bool) → at 5 1 ≡ cond a (at 5 1) (cond b (at 5 0) (at 0 0)) → a ≡ true
named_newer true b e = refl
named_newer false true e = let z : ◌≡◌ {A = ℕ} 1 0 = ap (λ p. p.offset) e in absurd (omega arith)
named_newer false false e = let z : ◌≡◌ {A = ℕ} 5 0 = ap (λ p. p.stamp) e in absurd (omega arith)

-- one sample without the letter
abbrev dark : List (Accepted Bool)
dark = points_of (taken (seen 0 0) ∷ [])

dark_true : (ρ : Stream Bool) → Begins ρ dark → (v : Verdict) → True (at 5 0) ≡ line_of dark v → Truthful lit ρ v → ⊥
dark_true ρ b (true_at i) e t =
    let name : at 5 0 ≡ name_of dark i = cc in
    let first : i ≡ 0 = eqb-true i 0 (named_first (eqb i 0) name) in
    true_false (ρ.letters 0 0) (lit_sat ρ 0 (subst (λ k. Sat ρ (rule lit) k) first t)) (b.1 0)
dark_true ρ b (false_at i) e t = no cc
dark_true ρ b (joined i j) e t = no cc

dark_lines : (vs : List Verdict) → True (at 5 0) ∷ [] ≡ map (line_of dark) vs → ((ρ : Stream Bool) → Begins ρ dark → AllByRecursion (Truthful lit ρ) vs) → ⊥
dark_lines [] e t = no cc
dark_lines (v ∷ vs) e t =
    let c : (ρ : Stream Bool) × Begins ρ dark = continues (point_of (record { stamp = 5; letters = 0 })) [] tt in
    let line : True (at 5 0) ≡ line_of dark v = cc in
    dark_true c.0 c.1 v line (t c.0 c.1).0

-- a sample with the letter, and one without
abbrev both : List (Accepted Bool)
both = points_of (taken (seen 0 1) ∷ taken (seen 1 0) ∷ [])

both_joined : (ρ : Stream Bool) → Begins ρ both → (v : Verdict) → Joined (at 5 1) (at 5 0) ≡ line_of both v → Truthful lit ρ v → ⊥
both_joined ρ b (true_at i) e t = no cc
both_joined ρ b (false_at i) e t = no cc
both_joined ρ b (joined i j) e t =
    let later : at 5 1 ≡ name_of both i = cc in
    let earlier : at 5 0 ≡ name_of both j = cc in
    let i-is : i ≡ 1 = eqb-true i 1 (named_newer (eqb i 1) (eqb i 0) later) in
    let j-is : j ≡ 0 = eqb-true j 0 (named_older (eqb j 1) (eqb j 0) earlier) in
    let back : Sat ρ (rule lit) 0 → Sat ρ (rule lit) 1 = subst (λ k. Sat ρ (rule lit) 0 → Sat ρ (rule lit) k) i-is (subst (λ k. Sat ρ (rule lit) k → Sat ρ (rule lit) i) j-is t.1) in
    true_false (ρ.letters 1 0) (lit_sat ρ 1 (back (sat_lit ρ 0 (b.2.1 0)))) (b.1 0)

both_lines : (l : Line) (vs : List Verdict) → l ∷ Joined (at 5 1) (at 5 0) ∷ [] ≡ map (line_of both) vs → ((ρ : Stream Bool) → Begins ρ both → AllByRecursion (Truthful lit ρ) vs) → ⊥
both_lines l [] e t = no cc
both_lines l (v ∷ []) e t = no cc
both_lines l (v ∷ w ∷ vs) e t =
    let rise : Rising both = (omega arith, tt) in
    let c : (ρ : Stream Bool) × Begins ρ both = continues (point_of (record { stamp = 5; letters = 0 })) (point_of (record { stamp = 5; letters = 1 }) ∷ []) rise in
    let line : Joined (at 5 1) (at 5 0) ≡ line_of both w = cc in
    both_joined c.0 c.1 w line (t c.0 c.1).1.0

-- the condition of a letter is never open
dark_decided : (i : ℕ) → Undecided lit dark i → ⊥
unfolding formulas settings condition of_point newest
dark_decided zero u = u.not_false (λ v. refl)
dark_decided (suc i) u = let lt = u.accepted in omega arith

dark_silent : (hs : List HeldPoint) (is : List ℕ) → Stand lit dark hs is → AllByRecursion (Undecided lit dark) is → length hs ≡ 1 → ⊥
dark_silent [] is s u n = omega arith
dark_silent (h ∷ hs) [] s u n = s
dark_silent (h ∷ hs) (i ∷ is) s u n = dark_decided i u.0

-- a draw does not say ended while an entry is left
abbrev NotEnded : Drawn → Type 0
NotEnded d = d.answer ≡ Err Ended → ⊥

ended_never : (st : State) (e : Entry) (es : List Entry) (tray : ℕ) → Not (draw_answer st (e ∷ es) tray ≡ Err Ended)
ended_never st e es tray =
    draw_by NotEnded st (e ∷ es) tray (λ q. no cc) (λ q. no cc)
    (λ room. content_by NotEnded st es e.place e.content (λ f q. no cc) (λ q. no cc) (λ q. no cc) (λ s h q. no cc) (λ s x n y q. no cc))

-- a draw that is short of slots has more points to hold than there are slots
abbrev Full : State → Drawn → Type 0
Full st d = (place : ℕ) → d.answer ≡ Err (Slots place) → (s : Sample) × (st.slots < length (treatment st s (filled_at st s)).held)

slots_full : (st : State) (es : List Entry) (tray : ℕ) → Full st (draw st es tray)
slots_full st [] tray = draw_by (Full st) st [] tray (λ p q. no cc) (λ p q. no cc) (λ room p q. no cc)
slots_full st (e ∷ es) tray =
    draw_by (Full st) st (e ∷ es) tray (λ p q. no cc) (λ p q. no cc)
    (λ room. content_by (Full st) st es e.place e.content (λ f p q. no cc) (λ p q. no cc) (λ p q. no cc)
    (λ s h p q. (s, leb-false (length (treatment st s (filled_at st s)).held) st.slots h)) (λ s x n y p q. no cc))

-- the first sample is accepted
first_accepted : (rs : List Record) (slots tray : ℕ) (s : Sample) (place : ℕ) (es : List Entry) → 0 < slots → 0 < tray →
    (n : ℕ) × (draw_answer (fitted rs slots) (record { place = place; content = Ok s } ∷ es) tray ≡ Ok n)
first_accepted rs slots tray s place es some room =
    let st = fitted rs slots in
    let all = record { place = place; content = Ok s } ∷ es in
    let t = treatment st s (filled_at st s) in
    let total = treated_total (record { lines = []; held = [] }) (to_treat st s (filled_at st s)) in
    let fits : length t.held ≤ slots = omega arith in
    let good = accepting st es s in
    let a : draw st all tray ≡ drawn_entry st all = cond-true (ltb 0 tray) (drawn_entry st all) (unaltered st all Tray) (lt-ltb 0 tray room) in
    let b : drawn_entry st all ≡ good = cond-true (leb (length t.held) slots) good (turned_away st es (Slots place)) (le-leb (length t.held) slots fits) in
    (length t.lines, ap (λ (d : Drawn). d.answer) (a ∙ b))

pub wrong_watches_fail : WrongWatchesFail
wrong_watches_fail = record {
  all_true = λ slots start rest st p. dark_lines p.verdicts p.said p.truthful;
  all_joined = λ slots start rest st p. both_lines (True (at 5 0)) p.verdicts p.said p.truthful;
  all_held = λ slots start rest st p.
      let sum = p.accepted_sum in
      let count = p.accepted_count in
      let none : count_by settles_one [] + count_by joins_two [] ≡ 0 = refl in
      dark_silent st.held p.numbers p.held p.undecided (omega arith);
  first_only = λ rs slots st l e lines p. let n : ◌≡◌ {A = ℕ} 2 1 = ap length p.nothing_lost in omega arith;
  counts_invented = λ rs slots start rest st log lines more p. let n = p.drawn_count in omega arith;
  all_refused = first_accepted;
  ended_early = ended_never;
  slots_early = λ st es tray place. slots_full st es tray place;
}
