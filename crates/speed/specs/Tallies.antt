-- Lines counted by their kind, and draws in turn.
use Rattle.std.specs.Prelude.{ℕ, zero, suc, ◌+◌, List, [], ◌∷◌, ◌++◌}
use Rattle.feed.specs.declared.entry.Entry.{Entry}
use Rattle.logic.specs.declared.verdict.Line.{Line}
use Rattle.logic.specs.declared.verdict.Line.TheVariants.{True, False, Joined}
use Rattle.logic.specs.States.{State}
use Rattle.logic.specs.Draws.{draw_lines, draw_rest, draw_state}
use Rattle.speed.specs.declared.tally.Tally.{Tally}

-- no lines
abbrev pub none : Tally
none = record { trues = 0; falses = 0; joins = 0 }

-- how many lines a tally has counted
abbrev pub size : Tally → ℕ
size t = t.trues + t.falses + t.joins

-- one line more
abbrev pub counted : Tally → Line → Tally
counted t (True p) = record { trues = t.trues + 1; falses = t.falses; joins = t.joins }
counted t (False p) = record { trues = t.trues; falses = t.falses + 1; joins = t.joins }
counted t (Joined p q) = record { trues = t.trues; falses = t.falses; joins = t.joins + 1 }

-- some lines more
abbrev pub tallied : Tally → List Line → Tally
tallied t [] = t
tallied t (l ∷ ls) = tallied (counted t l) ls

-- how far draws have come: the state, the entries still to come, and the lines
pub record Course : Type 0 where
  pub state : State
  pub rest : List Entry
  pub lines : List Line

-- a draw with a tray that has room
abbrev pub drawn_on : Course → Course
drawn_on c = record {
  state = draw_state c.state c.rest 129;
  rest = draw_rest c.state c.rest 129;
  lines = c.lines ++ draw_lines c.state c.rest 129;
}

-- n draws in turn
unfoldable pub course : State → List Entry → ℕ → Course
course st es zero = record { state = st; rest = es; lines = [] }
course st es (suc n) = drawn_on (course st es n)
