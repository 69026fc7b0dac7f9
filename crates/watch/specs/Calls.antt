-- Runs of permitted calls on a newly fitted watch.
use Rattle.std.specs.Prelude.{ℕ, min, List, [], ◌∷◌, ◌++◌, Some, None, Ok, Err, Option, Result}
use Rattle.feed.specs.declared.entry.Entry.{Entry}
use Rattle.rule.specs.Reading.{Read}
use Rattle.rule.specs.declared.refusal.RuleRefusal.{RuleRefusal}
use Rattle.rule.specs.declared.record.Record.{Record}
use Rattle.logic.specs.declared.verdict.Line.{Line}
use Rattle.logic.specs.States.{State, fitted}
use Rattle.logic.specs.Draws.{draw_answer, draw_lines, draw_rest, draw_state, held_count, held_name}
use Rattle.logic.specs.Histories.{KeptPromise, Logged, Reached, logged}
use Rattle.watch.specs.declared.call.Answer.{Answer}
use Rattle.watch.specs.declared.call.Answer.TheVariants as answers
use Rattle.watch.specs.declared.call.Call.{Call}
use Rattle.watch.specs.declared.call.Call.TheVariants as calls

-- a draw treats at most so many points, so that a longer tray makes no difference
abbrev pub tray_of : ℕ → ℕ
tray_of n = min n 129

-- what a call answers, on the state and the entries as they are
abbrev pub answer_to : State → List Entry → Call → Answer
answer_to st es (calls.Draw n) = answers.Draw (draw_answer st es (tray_of n))
answer_to st es calls.Drawn = answers.Count st.drawn
answer_to st es calls.Accepted = answers.Count st.accepted
answer_to st es calls.TurnedAway = answers.Count st.turned
answer_to st es calls.Held = answers.Count (held_count st)
answer_to st es (calls.HeldPoint k) = answers.Point (held_name st k)

-- how far a run has come: the state, the entries still to come, the answers, the entries drawn, and the lines
pub record Stage : Type 0 where
  pub state : State
  pub rest : List Entry
  pub answers : List Answer
  pub log : List Logged
  pub lines : List Line

-- before any call
abbrev pub stage_at : State → List Entry → Stage
stage_at st es = record { state = st; rest = es; answers = []; log = []; lines = [] }

-- newly fitted over some entries
abbrev pub newly_fitted : List Record → ℕ → List Entry → Stage
newly_fitted rs slots es = stage_at (fitted rs slots) es

-- the tray of a draw; none of a read-out, which alters nothing
abbrev pub drawing_of : Call → Option ℕ
drawing_of (calls.Draw n) = Some (tray_of n)
drawing_of calls.Drawn = None
drawing_of calls.Accepted = None
drawing_of calls.TurnedAway = None
drawing_of calls.Held = None
drawing_of (calls.HeldPoint k) = None

-- the state after a call
abbrev pub state_after : State → List Entry → Option ℕ → State
state_after st es None = st
state_after st es (Some n) = draw_state st es n

-- the entries still to come after it
abbrev pub entries_after : State → List Entry → Option ℕ → List Entry
entries_after st es None = es
entries_after st es (Some n) = draw_rest st es n

-- the lines that it gives
abbrev pub lines_given : State → List Entry → Option ℕ → List Line
lines_given st es None = []
lines_given st es (Some n) = draw_lines st es n

-- the entries that it draws
abbrev pub entries_drawn : State → List Entry → Option ℕ → List Logged
entries_drawn st es None = []
entries_drawn st es (Some n) = logged (draw_answer st es n) es

-- one call more
abbrev pub moved_on : Stage → Call → Stage
moved_on s c = record {
  state = state_after s.state s.rest (drawing_of c);
  rest = entries_after s.state s.rest (drawing_of c);
  answers = s.answers ++ (answer_to s.state s.rest c ∷ []);
  log = s.log ++ entries_drawn s.state s.rest (drawing_of c);
  lines = s.lines ++ lines_given s.state s.rest (drawing_of c);
}

-- each call in turn
abbrev pub stages : Stage → List Call → Stage
stages s [] = s
stages s (c ∷ cs) = stages (moved_on s c) cs

-- draws alone lead to a stage from a fresh fitting over the entries `start`
abbrev pub Led : List Record → ℕ → List Entry → Stage → Type 0
Led rs slots start s = Reached rs slots start s.state s.rest s.log s.lines

-- the promise is kept at a stage
abbrev pub Kept : List Record → ℕ → List Entry → Stage → Type 0
Kept rs slots start s = KeptPromise rs slots start s.state s.rest s.log s.lines

-- what a run of calls leaves, by what was read of the rule: the last stage, or all as it was where the fitting is refused
pub record Played : Type 0 where
  pub state : State
  pub rest : List Entry
  pub answers : List Answer

abbrev pub outcome : Stage → Played
outcome s = record { state = s.state; rest = s.rest; answers = s.answers }

abbrev pub played : Read → ℕ → State → List Entry → List Call → Played
played (Ok rs) slots old es cs = outcome (stages (newly_fitted rs slots es) cs)
played (Err e) slots old es cs = record { state = old; rest = es; answers = [] }

-- how many calls were made, or why the rule is refused
abbrev pub run_answer : Read → ℕ → Result ℕ RuleRefusal
run_answer (Ok rs) n = Ok n
run_answer (Err e) n = Err e
