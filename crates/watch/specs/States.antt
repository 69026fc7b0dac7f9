-- What a watch in the code holds, as the logic speaks of it.
use Rattle.std.specs.Prelude.{ℕ, ◌+◌, List, [], take, Some, None, Option}
use Rattle.truth.specs.declared.table.Condition.{Condition}
use Rattle.rule.specs.Components.{components}
use Rattle.rule.specs.Reading.{records}
use Rattle.logic.specs.declared.verdict.HeldPoint.{HeldPoint}
use Rattle.logic.specs.declared.verdict.Point.{Point}
use Rattle.logic.specs.States.{State}
use Rattle.watch.specs.declared.watch.Watch.{Watch}

-- the conditions at the newest point; none before the first point
abbrev pub conditions : Option Point → ℕ → List Condition → List Condition
conditions None n vs = []
conditions (Some p) n vs = take n vs

-- what a watch holds
abbrev pub state : Watch → State
state w = record {
  table = records w.rule;
  slots = w.slots;
  drawn = w.drawn;
  accepted = w.accepted;
  turned = w.turned_away;
  newest = w.newest;
  values = conditions w.newest (components (records w.rule)) w.values;
  held = take w.count w.held;
}

-- a state with one entry more drawn and accepted
abbrev pub counted : State → State
counted st = record {
  table = st.table;
  slots = st.slots;
  drawn = st.drawn + 1;
  accepted = st.accepted + 1;
  turned = st.turned;
  newest = st.newest;
  values = st.values;
  held = st.held;
}

-- a state with other held points
abbrev pub with_held : State → List HeldPoint → State
with_held st hs = record {
  table = st.table;
  slots = st.slots;
  drawn = st.drawn;
  accepted = st.accepted;
  turned = st.turned;
  newest = st.newest;
  values = st.values;
  held = hs;
}
