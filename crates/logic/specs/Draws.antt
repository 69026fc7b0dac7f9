-- What a draw answers, and what it makes of the state, the entries still to come and the lines.
use Rattle.std.specs.Prelude.{ℕ, zero, suc, ◌+◌, ◌-◌, Bool, false, cond, List, [], ◌∷◌, ◌++◌, map, length, Some, None, Ok, Err, Option, Result, ◌==◌, nat_le, nat_lt, slice_index_or}
use Rattle.std.specs.List.{range_with_len}
use Rattle.std.specs.Str.{bytes_eq}
use Rattle.truth.specs.declared.table.Condition.{Condition}
use Rattle.truth.specs.Tables.{openly}
use Rattle.truth.specs.Replacing.{waiting, replaced}
use Rattle.feed.specs.declared.entry.Entry.{Entry}
use Rattle.feed.specs.declared.entry.Sample.{Sample}
use Rattle.feed.specs.Entries.{Content}
use Rattle.feed.specs.Entries.{letter_of}
use Rattle.rule.specs.declared.record.Record.{Record}
use Rattle.rule.specs.Components.{left_of, right_of, shifts, own_waits, first_component, first_wait, looks_ahead, earlier}
use Rattle.logic.specs.declared.verdict.Point.{Point}
use Rattle.logic.specs.declared.verdict.Line.{Line}
use Rattle.logic.specs.declared.verdict.Line.TheVariants.{True, False, Joined}
use Rattle.logic.specs.declared.verdict.HeldPoint.{HeldPoint}
use Rattle.logic.specs.declared.refusal.DrawRefusal.{DrawRefusal}
use Rattle.logic.specs.declared.refusal.DrawRefusal.TheVariants.{Counted, Tray, Ended, Spoiled, Stamp, Crowded, Slots}
use Rattle.logic.specs.Values.{at_shift_or}
use Rattle.logic.specs.Steps.{evaluated, renewed}
use Rattle.logic.specs.Tables.{row}
use Rattle.logic.specs.States.{State}

-- as many entries can be drawn
abbrev pub most_drawn : ℕ
most_drawn = 4_294_967_295

-- as many points can have one stamp
abbrev pub most_offsets : ℕ
most_offsets = 65_536

-- the letters of a word as conditions
abbrev pub lettered : ℕ → ℕ → Condition
lettered w l = cond (letter_of w l) openly.always openly.never

-- the condition of component c among the conditions vs
abbrev pub among : List Condition → ℕ → Condition
among vs c = slice_index_or vs c openly.never

-- the condition of component c at the point before, carried by the conditions ws that the waits have become; never where there is none
abbrev pub brought : List Condition → List Condition → Option ℕ → Condition
brought ws before c = at_shift_or (λ n. replaced ws (among before n)) openly.never c

-- what a neighbour point gives record j at shift s: its own wait, or a carried condition of the point before
abbrev pub given : List Record → Option ℕ → List Condition → List Condition → ℕ → ℕ → Condition
given rs gap before ws j s =
    cond (looks_ahead (row rs j)) (waiting (first_wait rs j + s)) (brought ws before (earlier rs (row rs j) (first_component rs j) s gap))

-- the condition of record j at shift s at the newest point, over the conditions vs of the earlier records there and what waits became
abbrev pub conditioned : List Record → ℕ → Option ℕ → List Condition → List Condition → List Condition → ℕ → ℕ → Condition
conditioned rs word gap before vs ws j s =
    evaluated openly (row rs j) s (lettered word)
    (at_shift_or (λ a. among vs (first_component rs a)) openly.never (left_of (row rs j)))
    (at_shift_or (λ a. among vs (first_component rs a)) openly.never (right_of (row rs j)))
    (given rs gap before ws j s)

-- the conditions of record j at its shifts
abbrev pub row_values : List Record → ℕ → Option ℕ → List Condition → List Condition → List Condition → ℕ → List Condition
row_values rs word gap before vs ws j = map (conditioned rs word gap before vs ws j) (range_with_len 0 (shifts (row rs j)))

-- what the waits of record j become, over the conditions vs of the records up to it
abbrev pub row_waits : List Record → Option ℕ → List Condition → ℕ → List Condition
row_waits rs gap vs j = map (renewed openly (row rs j) gap (λ a s. among vs (first_component rs a + s)) j) (range_with_len 0 (own_waits (row rs j)))

-- conditions at the newest point, and what waits become there
pub record Filled : Type 0 where
  pub values : List Condition
  pub becomes : List Condition

-- those of record j after those of the records before it
abbrev pub extended : List Record → ℕ → Option ℕ → List Condition → ℕ → List Condition → List Condition → Filled
extended rs word gap before j vs ws =
    let more = vs ++ row_values rs word gap before vs ws j in
    record { values = more; becomes = ws ++ row_waits rs gap more j }

-- those of the first n records, for the sample's word, the gap to the point before, if there is one, and the conditions there
abbrev pub filled : List Record → ℕ → Option ℕ → List Condition → ℕ → Filled
filled rs word gap before zero = record { values = []; becomes = [] }
filled rs word gap before (suc n) =
    let old = filled rs word gap before n in extended rs word gap before n old.values old.becomes

-- the condition of a rule: that of its last record at shift 0
abbrev pub ruled : List Record → List Condition → Condition
ruled rs vs = among vs (first_component rs (length rs - 1))

-- held points when the waits have become ws: all waits replaced together
abbrev pub carried_points : List Condition → List HeldPoint → List HeldPoint
carried_points ws held = map (λ h. record { point = h.point; condition = replaced ws h.condition }) held

-- whether two conditions are the same
abbrev pub alike : Condition → Condition → Bool
alike c d = bytes_eq c.words d.words

-- the point in a list that has the condition, if there is one
abbrev pub found : Condition → List HeldPoint → Option Point
found c [] = None
found c (h ∷ hs) = cond (alike c h.condition) (Some h.point) (found c hs)

-- what a draw says of the points that it has treated, and those of them that it holds
pub record Treated : Type 0 where
  pub lines : List Line
  pub held : List HeldPoint

-- one line more
abbrev pub said : Treated → Line → Treated
said t l = record { lines = t.lines ++ (l ∷ []); held = t.held }

-- a point is joined to one that has its condition, or held
abbrev pub joined_or_held : Treated → HeldPoint → Option Point → Treated
joined_or_held t h None = record { lines = t.lines; held = t.held ++ (h ∷ []) }
joined_or_held t h (Some p) = said t (Joined h.point p)

-- one point more: true, false, joined to one that is held, or held
abbrev pub treated : Treated → HeldPoint → Treated
treated t h =
    cond (alike h.condition openly.always) (said t (True h.point))
    (cond (alike h.condition openly.never) (said t (False h.point))
    (joined_or_held t h (found h.condition t.held)))

-- all of some points, in their order
abbrev pub treated_all : Treated → List HeldPoint → Treated
treated_all t [] = t
treated_all t (h ∷ hs) = treated_all (treated t h) hs

-- the gap from the newest point, if there is one, to a stamp
abbrev pub gap_from : Option Point → ℕ → Option ℕ
gap_from None t = None
gap_from (Some p) t = Some (t - p.stamp)

-- a stamp below that of the newest point
abbrev pub late : Option Point → ℕ → Bool
late None t = false
late (Some p) t = nat_lt t p.stamp

-- how many points have the stamp t, which is not below that of the newest point
abbrev pub next_offset : Option Point → ℕ → ℕ
next_offset None t = 0
next_offset (Some p) t = cond (p.stamp == t) (p.offset + 1) 0

-- the name of a new point
abbrev pub next_name : Option Point → ℕ → Point
next_name newest t = record { stamp = t; offset = next_offset newest t }

-- the conditions at a new point, and what waits become there
abbrev pub filled_at : State → Sample → Filled
filled_at st s = filled st.table s.letters (gap_from st.newest s.stamp) st.values (length st.table)

-- the points that are treated when one is accepted: those held, carried, and then the new one
abbrev pub to_treat : State → Sample → Filled → List HeldPoint
to_treat st s f =
    carried_points f.becomes st.held
    ++ (record { point = next_name st.newest s.stamp; condition = ruled st.table f.values } ∷ [])

-- what is said of them, and which are held
abbrev pub treatment : State → Sample → Filled → Treated
treatment st s f = treated_all (record { lines = []; held = [] }) (to_treat st s f)

-- what a draw answers and leaves
pub record Drawn : Type 0 where
  pub answer : Result ℕ DrawRefusal
  pub state : State
  pub rest : List Entry
  pub lines : List Line

-- a refusal that alters nothing
abbrev pub unaltered : State → List Entry → DrawRefusal → Drawn
unaltered st es why = record { answer = Err why; state = st; rest = es; lines = [] }

-- the state after an entry was turned away
abbrev pub turned_state : State → State
turned_state st = record {
  table = st.table;
  slots = st.slots;
  drawn = st.drawn + 1;
  accepted = st.accepted;
  turned = st.turned + 1;
  newest = st.newest;
  values = st.values;
  held = st.held;
}

-- a refusal of the entry that was drawn
abbrev pub turned_away : State → List Entry → DrawRefusal → Drawn
turned_away st es why = record { answer = Err why; state = turned_state st; rest = es; lines = [] }

-- the state after a sample was accepted
abbrev pub accepted_state : State → Sample → Filled → Treated → State
accepted_state st s f t = record {
  table = st.table;
  slots = st.slots;
  drawn = st.drawn + 1;
  accepted = st.accepted + 1;
  turned = st.turned;
  newest = Some (next_name st.newest s.stamp);
  values = f.values;
  held = t.held;
}

-- the last question: would at most as many points be held as there are slots?
abbrev pub slotted : State → List Entry → ℕ → Sample → Filled → Treated → Drawn
slotted st es place s f t =
    cond (nat_le (length t.held) st.slots)
    (record { answer = Ok (length t.lines); state = accepted_state st s f t; rest = es; lines = t.lines })
    (turned_away st es (Slots place))

-- the new point's conditions are filled and the points are treated
abbrev pub sampled : State → List Entry → ℕ → Sample → Drawn
sampled st es place s = let f = filled_at st s in slotted st es place s f (treatment st s f)

-- the questions of an entry
abbrev pub drawn_content : State → List Entry → ℕ → Content → Drawn
drawn_content st es place (Ok s) =
    cond (late st.newest s.stamp) (turned_away st es (Stamp place))
    (cond (nat_lt (next_offset st.newest s.stamp) most_offsets) (sampled st es place s) (turned_away st es (Crowded place)))
drawn_content st es place (Err f) = turned_away st es (Spoiled place f)

-- is an entry left?
abbrev pub drawn_entry : State → List Entry → Drawn
drawn_entry st [] = unaltered st [] Ended
drawn_entry st (e ∷ es) = drawn_content st es e.place e.content

-- a draw from the entries es with a tray of so many lines
abbrev pub draw : State → List Entry → ℕ → Drawn
draw st es tray =
    cond (nat_lt st.drawn most_drawn) (cond (nat_lt (length st.held) tray) (drawn_entry st es) (unaltered st es Tray)) (unaltered st es Counted)

-- what it answers: the number of lines, or the first question that was answered no
abbrev pub draw_answer : State → List Entry → ℕ → Result ℕ DrawRefusal
draw_answer st es tray = (draw st es tray).answer

-- the state after it
abbrev pub draw_state : State → List Entry → ℕ → State
draw_state st es tray = (draw st es tray).state

-- the entries still to come after it
abbrev pub draw_rest : State → List Entry → ℕ → List Entry
draw_rest st es tray = (draw st es tray).rest

-- the lines that it writes; none on a refusal
abbrev pub draw_lines : State → List Entry → ℕ → List Line
draw_lines st es tray = (draw st es tray).lines

-- how many points are held
abbrev pub held_count : State → ℕ
held_count st = length st.held

-- the name of the k-th of some points, if there are so many
abbrev pub name_at : List HeldPoint → ℕ → Option Point
name_at [] k = None
name_at (h ∷ hs) zero = Some h.point
name_at (h ∷ hs) (suc k) = name_at hs k

-- the name of the k-th held point
abbrev pub held_name : State → ℕ → Option Point
held_name st k = name_at st.held k
