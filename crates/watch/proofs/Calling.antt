-- One call more of a run, and the promise at every stage.
use Rattle.std.proofs.Common.{◌≡◌, ℕ, ◌+◌, ◌<◌, ◌≤◌, List, [], ◌∷◌, ◌++◌, length, get_or, take, set, Some, None, Ok, Err, Option, sym, refl, ap, ◌∙◌, subst, ap₂, arith}
use Rattle.std.proofs.lemmas.List.{append-nil, length-append, length-take-le, take_more}
use Rattle.feed.specs.Lists.{onto}
use Rattle.feed.proofs.Onto.{onto_more}
use Rattle.feed.specs.declared.entry.Entry.{Entry}
use Rattle.rule.specs.declared.record.Record.{Record}
use Rattle.rule.specs.declared.refusal.RuleRefusal.{RuleRefusal}
use Rattle.rule.specs.Components.{waits}
use Rattle.rule.specs.Limits.{most_waits}
use Rattle.rule.specs.Reading.{Read}
use Rattle.rule.specs.Records.{Sound}
use Rattle.instant.specs.Answers.{fit_answer}
use Rattle.logic.proofs.Histories.{histories_kept}
use Rattle.watch.specs.Fittings.{after_fitting}
use Rattle.logic.specs.declared.verdict.Line.{Line}
use Rattle.logic.specs.States.{State}
use Rattle.logic.specs.Histories.{Logged, Reached, newly, drawing}
use Rattle.watch.specs.declared.call.Answer.{Answer}
use Rattle.watch.specs.declared.call.Call.{Call}
use Rattle.watch.specs.Calls.{Kept, Stage, answer_to, drawing_of, entries_after, entries_drawn, lines_given, moved_on, newly_fitted, outcome, played, run_answer, stage_at, stages, state_after}

pub stages_push : (s : Stage) (cs : List Call) (c : Call) → stages s (cs ++ c ∷ []) ≡ moved_on (stages s cs) c
stages_push s [] c = refl
stages_push s (d ∷ cs) c = stages_push (moved_on s d) cs c

answers_long : (s : Stage) (cs : List Call) → length (stages s cs).answers ≡ length s.answers + length cs
answers_long s [] = omega arith
answers_long s (c ∷ cs) = answers_long (moved_on s c) cs ∙ omega (arith, length-append s.answers (answer_to s.state s.rest c ∷ []))

-- the first i calls of a list are made: what there is, and the answers at the front of S
pub record Made (st : State) (es : List Entry) (cs : List Call) (S : List Answer) (i : ℕ) (st' : State) (es' : List Entry) (R : List Answer) : Type 0 where
  pub state : st' ≡ (stages (stage_at st es) (take i cs)).state
  pub entries : es' ≡ (stages (stage_at st es) (take i cs)).rest
  pub answers : R ≡ onto (stages (stage_at st es) (take i cs)).answers S

-- the next call, on what there is
pub made_more : (st : State) (es : List Entry) (cs : List Call) (S : List Answer) (i : ℕ) (st₁ st₂ : State) (es₁ es₂ : List Entry) (R : List Answer) (a : Answer) (x d : Call)
    → Made st es cs S i st₁ es₁ R → i < length cs → i < length S → x ≡ get_or cs i d
    → st₂ ≡ state_after st₁ es₁ (drawing_of x) → es₂ ≡ entries_after st₁ es₁ (drawing_of x) → a ≡ answer_to st₁ es₁ x → Made st es cs S (i + 1) st₂ es₂ (set R i a)
made_more st es cs S i st₁ st₂ es₁ es₂ R a x d m lt room is p q r =
    let here = stages (stage_at st es) (take i cs) in
    let there = stages (stage_at st es) (take (i + 1) cs) in
    let on : moved_on here x ≡ there =
    ap (moved_on here) is ∙ sym (ap (stages (stage_at st es)) (take_more cs i d lt) ∙ stages_push (stage_at st es) (take i cs) (get_or cs i d)) in
    let long : length here.answers ≡ i = answers_long (stage_at st es) (take i cs) ∙ omega (arith, length-take-le i cs (omega arith)) in
    record {
      state = p ∙ ap₂ (λ u v. state_after u v (drawing_of x)) m.state m.entries ∙ ap (λ (s : Stage). s.state) on;
      entries = q ∙ ap₂ (λ u v. entries_after u v (drawing_of x)) m.state m.entries ∙ ap (λ (s : Stage). s.rest) on;
      answers =
          ap₂ (λ z b. set z i b) m.answers (r ∙ ap₂ (λ u v. answer_to u v x) m.state m.entries)
          ∙ onto_more here.answers S i (answer_to here.state here.rest x) long room ∙ ap (λ (s : Stage). onto s.answers S) on;
    }

-- every stage is reached
module _ (rs : List Record) (slots : ℕ) (start : List Entry) where
  one_more : (st : State) (es : List Entry) (log : List Logged) (lines : List Line) (o : Option ℕ) → Reached rs slots start st es log lines
      → Reached rs slots start (state_after st es o) (entries_after st es o) (log ++ entries_drawn st es o) (lines ++ lines_given st es o)
  one_more st es log lines None r =
      subst (λ x. Reached rs slots start st es x (lines ++ [])) (sym (append-nil log)) (subst (λ x. Reached rs slots start st es log x) (sym (append-nil lines)) r)
  one_more st es log lines (Some n) r = drawing r n

  all_reached : (s : Stage) (cs : List Call) → Reached rs slots start s.state s.rest s.log s.lines
      → Reached rs slots start (stages s cs).state (stages s cs).rest (stages s cs).log (stages s cs).lines
  all_reached s [] r = r
  all_reached s (c ∷ cs) r = all_reached (moved_on s c) cs (one_more s.state s.rest s.log s.lines (drawing_of c) r)

  pub stages_reached : (cs : List Call) → let s = stages (newly_fitted rs slots start) cs in Reached rs slots start s.state s.rest s.log s.lines
  stages_reached cs = all_reached (newly_fitted rs slots start) cs newly

-- a run by what was read of the rule
pub good_run : (x : Read) (u : Unit {0}) (n : ℕ) → Ok u ≡ fit_answer x → Ok n ≡ run_answer x n
good_run (Ok rs) u n a = refl
good_run (Err e) u n a = absurd (cc)

pub good_played : (x : Read) (slots : ℕ) (old st : State) (es : List Entry) (u : Unit {0}) (cs : List Call)
    → Ok u ≡ fit_answer x → st ≡ after_fitting x slots old → outcome (stages (stage_at st es) cs) ≡ played x slots old es cs
good_played (Ok rs) slots old st es u cs a e = ap (λ (z : State). outcome (stages (stage_at z es) cs)) e
good_played (Err f) slots old st es u cs a e = absurd (cc)

pub bad_run : (x : Read) (f : RuleRefusal) (n : ℕ) → Err f ≡ fit_answer x → Err f ≡ run_answer x n
bad_run (Ok rs) f n a = absurd (cc)
bad_run (Err e) f n a = let same : f ≡ e = cc in ap Err same

pub bad_played : (x : Read) (slots : ℕ) (old : State) (es : List Entry) (f : RuleRefusal) (cs : List Call)
    → Err f ≡ fit_answer x → record { state = old; rest = es; answers = [] } ≡ played x slots old es cs
bad_played (Ok rs) slots old es f cs a = absurd (cc)
bad_played (Err e) slots old es f cs a = refl

pub fitted_table : (x : Read) (slots : ℕ) (old st : State) (rs : List Record) → x ≡ Ok rs → st ≡ after_fitting x slots old → st.table ≡ rs
fitted_table x slots old st rs e f = ap (λ (s : State). s.table) (f ∙ ap (λ (y : Read). after_fitting y slots old) e)

pub never_both : (x : Read) (f : RuleRefusal) (rs : List Record) → Err f ≡ fit_answer x → x ≡ Ok rs → ⊥
never_both (Ok qs) f rs a e = cc
never_both (Err g) f rs a e = cc

-- the promise at every stage of a run of a sound rule
pub kept_stages : (rs qs : List Record) (slots : ℕ) (start : List Entry) → qs ≡ rs → Sound qs → waits qs ≤ most_waits → 0 < length qs → (cs : List Call) → Kept rs slots start (stages (newly_fitted rs slots start) cs)
kept_stages rs qs slots start e sound few some cs =
    let s = stages (newly_fitted rs slots start) cs in
    histories_kept rs slots start (subst Sound e sound) (subst (λ z. waits z ≤ most_waits) e few) (subst (λ (z : List Record). 0 < length z) e some) s.state s.rest s.log s.lines (stages_reached rs slots start cs)
