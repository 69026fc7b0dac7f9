-- One step from point to point, in any kind of truth: what a record has at the newest point, and what its waits become there.
use Rattle.std.specs.Prelude.{ℕ, cond, Some, None, Option}
use Rattle.truth.specs.Laws.{Ops}
use Rattle.rule.specs.declared.interval.Interval.{Interval}
use Rattle.rule.specs.declared.record.Record.{Record}
use Rattle.rule.specs.declared.record.Record.TheVariants.{True, Letter, Not, And, Or, Previous, Since, Next, Until}
use Rattle.rule.specs.Intervals.{within, moved}
use Rattle.rule.specs.Components.{left_of, right_of}
use Rattle.logic.specs.Values.{at_shift_or, stepped}

module _ {T : Type 0} (k : Ops T) where
  -- a value on the other side of a gap that has to lie in the interval; never where there is no point
  abbrev pub fitting : Interval → Option ℕ → T → T
  fitting I None x = k.never
  fitting I (Some g) x = cond (within I g) x k.never

  -- values on the other side of a gap, at the shift to which it moves shift s
  abbrev pub across : Interval → ℕ → Option ℕ → (ℕ → T) → T
  across I s None f = k.never
  across I s (Some g) f = at_shift_or f k.never (moved I s g)

  -- a record's value at shift s, from the letters, the values of its arguments at the newest point, and what a neighbour point gives: the one
  -- before for a previous or a since, the one after, by its wait, for a next or an until
  abbrev pub evaluated : Record → ℕ → (ℕ → T) → T → T → T → T
  evaluated True s letters left right from = k.always
  evaluated (Letter l) s letters left right from = letters l
  evaluated (Not a) s letters left right from = k.not left
  evaluated (And a b) s letters left right from = k.both left right
  evaluated (Or a b) s letters left right from = k.either left right
  evaluated (Previous i a) s letters left right from = from
  evaluated (Since i a b) s letters left right from = stepped k i s left right from
  evaluated (Next i a) s letters left right from = from
  evaluated (Until i a b) s letters left right from = stepped k i s left right from

  -- what a neighbour point gives record j at shift s: the values of records at shifts one point before, or the record's waits
  abbrev pub neighbour : Record → Option ℕ → (ℕ → ℕ → T) → ℕ → ℕ → (ℕ → T) → T
  neighbour True gap before j s wait = k.never
  neighbour (Letter l) gap before j s wait = k.never
  neighbour (Not a) gap before j s wait = k.never
  neighbour (And a b) gap before j s wait = k.never
  neighbour (Or a b) gap before j s wait = k.never
  neighbour (Previous i a) gap before j s wait = fitting i gap (before a 0)
  neighbour (Since i a b) gap before j s wait = across i s gap (before j)
  neighbour (Next i a) gap before j s wait = wait 0
  neighbour (Until i a b) gap before j s wait = wait s

  -- the value of record j at shift s at the newest point: from the gap to the point before, the letters, the values of records at shift 0 at
  -- the newest point, those of records at shifts one point before, and the record's waits
  abbrev pub step : Record → Option ℕ → (ℕ → T) → (ℕ → T) → (ℕ → ℕ → T) → ℕ → ℕ → (ℕ → T) → T
  step r gap letters now before j s wait =
      evaluated r s letters (at_shift_or now k.never (left_of r)) (at_shift_or now k.never (right_of r)) (neighbour r gap before j s wait)

  -- what the wait of record j at shift s becomes at the newest point, from the values of records at shifts there
  abbrev pub renewed : Record → Option ℕ → (ℕ → ℕ → T) → ℕ → ℕ → T
  renewed True gap now j s = k.never
  renewed (Letter l) gap now j s = k.never
  renewed (Not a) gap now j s = k.never
  renewed (And a b) gap now j s = k.never
  renewed (Or a b) gap now j s = k.never
  renewed (Previous i a) gap now j s = k.never
  renewed (Since i a b) gap now j s = k.never
  renewed (Next i a) gap now j s = fitting i gap (now a 0)
  renewed (Until i a b) gap now j s = across i s gap (now j)
