-- What a run answers and counts.
use Rattle.std.specs.Prelude.{ℕ, List, Ok, Err, Result}
use Rattle.feed.specs.declared.entry.Entry.{Entry}
use Rattle.feed.specs.declared.pattern.PatternRefusal.{PatternRefusal}
use Rattle.feed.specs.Patterns.{pattern_number}
use Rattle.rule.specs.Reading.{Read}
use Rattle.rule.specs.Refusals.{refusal_number}
use Rattle.logic.specs.States.{State, fitted}
use Rattle.logic.specs.Draws.{held_count}
use Rattle.speed.specs.declared.run.Counts.{Counts}
use Rattle.speed.specs.declared.tally.Tally.{Tally}
use Rattle.speed.specs.Tallies.{course, none, tallied}

-- 0, or the number of the question that was answered no
abbrev pub run_answer : Read → Result (Unit {0}) PatternRefusal → ℕ
run_answer (Err e) made = refusal_number e
run_answer (Ok rs) (Err e) = pattern_number e
run_answer (Ok rs) (Ok u) = 0

-- a tally with the read-outs of a state
abbrev pub counts_of : Tally → State → Counts
counts_of t st = record {
  trues = t.trues;
  falses = t.falses;
  joins = t.joins;
  drawn = st.drawn;
  accepted = st.accepted;
  turned = st.turned;
  held = held_count st;
}

-- the counts after n draws from a newly fitted watch, or the old ones after a refusal
abbrev pub run_counts : Read → ℕ → Result (Unit {0}) PatternRefusal → List Entry → ℕ → Counts → Counts
run_counts (Err e) slots made es n old = old
run_counts (Ok rs) slots (Err e) es n old = old
run_counts (Ok rs) slots (Ok u) es n old = counts_of (tallied none (course (fitted rs slots) es n).lines) (course (fitted rs slots) es n).state
