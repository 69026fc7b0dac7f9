-- What a watch holds.
use Rattle.std.specs.Prelude.{ℕ, List, [], None, Option}
use Rattle.truth.specs.declared.table.Condition.{Condition}
use Rattle.rule.specs.declared.record.Record.{Record}
use Rattle.logic.specs.declared.verdict.Point.{Point}
use Rattle.logic.specs.declared.verdict.HeldPoint.{HeldPoint}

-- a rule and a number of slots, the counts, the name of the newest point, the conditions of all components there, numbered by record, then by
-- shift, and the held points, earliest first
pub record State : Type 0 where
  pub table : List Record
  pub slots : ℕ
  pub drawn : ℕ
  pub accepted : ℕ
  pub turned : ℕ
  pub newest : Option Point
  pub values : List Condition
  pub held : List HeldPoint

-- newly fitted: nothing drawn, no point, nothing held
abbrev pub fitted : List Record → ℕ → State
fitted rs slots = record { table = rs; slots = slots; drawn = 0; accepted = 0; turned = 0; newest = None; values = []; held = [] }
