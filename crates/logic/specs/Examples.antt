-- Worked runs: what follows from the definitions on concrete tables, and readings of the logic that are not meant.
use Rattle.std.specs.Prelude.{◌≡◌, ℕ, ◌+◌, true, false, cond, List, [], ◌∷◌, map, length, Some, None, Ok, Err, Option, Result, nat_lt}
use Rattle.truth.specs.declared.table.Condition.{Condition}
use Rattle.truth.specs.Plain.{plainly}
use Rattle.truth.specs.Replacing.{waiting, replaced}
use Rattle.feed.specs.declared.entry.Entry.{Entry}
use Rattle.rule.specs.declared.interval.Interval.{Interval}
use Rattle.rule.specs.declared.record.Record.{Record}
use Rattle.rule.specs.declared.record.Record.TheVariants as kind
use Rattle.rule.specs.Intervals.{last_shift}
use Rattle.logic.specs.declared.verdict.Point.{Point}
use Rattle.logic.specs.declared.verdict.Line.{Line}
use Rattle.logic.specs.declared.verdict.Line.TheVariants.{True, False, Joined}
use Rattle.logic.specs.declared.refusal.DrawRefusal.{DrawRefusal}
use Rattle.logic.specs.declared.refusal.DrawRefusal.TheVariants.{Stamp, Slots}
use Rattle.logic.specs.Values.{at_shift_or}
use Rattle.logic.specs.Steps.{across}
use Rattle.logic.specs.States.{State, fitted}
use Rattle.logic.specs.Draws.{Drawn, draw, alike}

-- a sample of a run: its stamp and its word
abbrev pub Sampled : Type 0
Sampled = ℕ × ℕ

-- the entries of some samples, counted from a place
abbrev pub entries_from : ℕ → List Sampled → List Entry
entries_from k [] = []
entries_from k (x ∷ xs) = record { place = k; content = Ok (record { stamp = x.0; letters = x.1 }) } ∷ entries_from (k + 1) xs

-- what one draw answered, and its lines
abbrev pub Told : Type 0
Told = Result ℕ DrawRefusal × List Line

-- what each draw told, then the names of the held points, then the counts of entries drawn, accepted and turned away and of points held
pub record Played : Type 0 where
  pub told : List Told
  pub held : List Point
  pub counts : List ℕ

-- one more draw was told
abbrev pub after : Drawn → Played → Played
after d p = record { told = (d.answer, d.lines) ∷ p.told; held = p.held; counts = p.counts }

-- a draw for each sample, with a long tray, from a state
abbrev pub played : State → ℕ → List Sampled → Played
played st k [] = record {
  told = [];
  held = map (λ h. h.point) st.held;
  counts = st.drawn ∷ st.accepted ∷ st.turned ∷ length st.held ∷ [];
}
played st k (x ∷ xs) = let d = draw st (entries_from k (x ∷ [])) 256 in after d (played d.state (k + 1) xs)

-- the run of some samples from a newly fitted watch
abbrev pub run_of : List Record → ℕ → List Sampled → Played
run_of rs slots xs = played (fitted rs slots) 0 xs

-- an interval
abbrev pub minutes : ℕ → Option ℕ → Interval
minutes low high = record { low = low; high = high }

-- a point by its stamp and offset
abbrev pub at : ℕ → ℕ → Point
at t o = record { stamp = t; offset = o }

-- a run, and what it comes to
pub record Case : Type 0 where
  pub table : List Record
  pub slots : ℕ
  pub samples : List Sampled
  pub comes_to : Played

-- letter 0 within a minute
abbrev pub soon : List Record
soon = kind.True ∷ kind.Letter 0 ∷ kind.Until (minutes 0 (Some 1)) 0 1 ∷ []

-- letter 0 at some time
abbrev pub sometime : List Record
sometime = kind.True ∷ kind.Letter 0 ∷ kind.Until (minutes 0 None) 0 1 ∷ []

-- letter 0 one point before, at the same stamp
abbrev pub just_before : List Record
just_before = kind.Letter 0 ∷ kind.Previous (minutes 0 (Some 0)) 0 ∷ []

-- letter 0 since letter 1, one or two minutes ago
abbrev pub held_on : List Record
held_on = kind.Letter 0 ∷ kind.Letter 1 ∷ kind.Since (minutes 1 (Some 2)) 0 1 ∷ []

-- letter 0 at the next point, one minute later
abbrev pub a_minute_on : List Record
a_minute_on = kind.Letter 0 ∷ kind.Next (minutes 1 (Some 1)) 0 ∷ []

-- the worked runs
abbrev pub cases : List Case
cases =
    record {
      table = soon;
      slots = 128;
      samples = (10, 0) ∷ (10, 0) ∷ (11, 0) ∷ (11, 1) ∷ (9, 0) ∷ (13, 0) ∷ [];
      comes_to = record {
        told = (Ok 0, []) ∷ (Ok 1, Joined (at 10 1) (at 10 0) ∷ []) ∷ (Ok 0, [])
            ∷ (Ok 3, True (at 10 0) ∷ True (at 11 0) ∷ True (at 11 1) ∷ []) ∷ (Err (Stamp 4), []) ∷ (Ok 0, []) ∷ [];
        held = at 13 0 ∷ [];
        counts = 6 ∷ 5 ∷ 1 ∷ 1 ∷ [];
      };
    }
    ∷ record {
      table = soon;
      slots = 128;
      samples = (10, 0) ∷ (12, 0) ∷ [];
      comes_to = record { told = (Ok 0, []) ∷ (Ok 1, False (at 10 0) ∷ []) ∷ []; held = at 12 0 ∷ []; counts = 2 ∷ 2 ∷ 0 ∷ 1 ∷ [] };
    }
    ∷ record {
      table = soon;
      slots = 128;
      samples = (10, 0) ∷ (11, 0) ∷ (12, 1) ∷ [];
      comes_to = record {
        told = (Ok 0, []) ∷ (Ok 0, []) ∷ (Ok 3, False (at 10 0) ∷ True (at 11 0) ∷ True (at 12 0) ∷ []) ∷ [];
        held = [];
        counts = 3 ∷ 3 ∷ 0 ∷ 0 ∷ [];
      };
    }
    ∷ record {
      table = sometime;
      slots = 128;
      samples = (0, 0) ∷ (5, 0) ∷ (9, 0) ∷ [];
      comes_to = record {
        told = (Ok 0, []) ∷ (Ok 1, Joined (at 5 0) (at 0 0) ∷ []) ∷ (Ok 1, Joined (at 9 0) (at 0 0) ∷ []) ∷ [];
        held = at 0 0 ∷ [];
        counts = 3 ∷ 3 ∷ 0 ∷ 1 ∷ [];
      };
    }
    ∷ record {
      table = just_before;
      slots = 128;
      samples = (5, 1) ∷ (5, 0) ∷ (6, 1) ∷ [];
      comes_to = record {
        told = (Ok 1, False (at 5 0) ∷ []) ∷ (Ok 1, True (at 5 1) ∷ []) ∷ (Ok 1, False (at 6 0) ∷ []) ∷ [];
        held = [];
        counts = 3 ∷ 3 ∷ 0 ∷ 0 ∷ [];
      };
    }
    ∷ record {
      table = held_on;
      slots = 128;
      samples = (3, 2) ∷ (4, 1) ∷ (6, 1) ∷ [];
      comes_to = record {
        told = (Ok 1, False (at 3 0) ∷ []) ∷ (Ok 1, True (at 4 0) ∷ []) ∷ (Ok 1, False (at 6 0) ∷ []) ∷ [];
        held = [];
        counts = 3 ∷ 3 ∷ 0 ∷ 0 ∷ [];
      };
    }
    ∷ record {
      table = a_minute_on;
      slots = 128;
      samples = (7, 0) ∷ (7, 1) ∷ (8, 1) ∷ [];
      comes_to = record {
        told = (Ok 0, []) ∷ (Ok 1, False (at 7 0) ∷ []) ∷ (Ok 1, True (at 7 1) ∷ []) ∷ [];
        held = at 8 0 ∷ [];
        counts = 3 ∷ 3 ∷ 0 ∷ 1 ∷ [];
      };
    }
    ∷ record {
      table = soon;
      slots = 1;
      samples = (10, 0) ∷ (11, 0) ∷ (12, 1) ∷ [];
      comes_to = record {
        told = (Ok 0, []) ∷ (Err (Slots 1), []) ∷ (Ok 2, False (at 10 0) ∷ True (at 12 0) ∷ []) ∷ [];
        held = [];
        counts = 3 ∷ 2 ∷ 1 ∷ 0 ∷ [];
      };
    }
    ∷ []

-- each run comes to what is said of it
abbrev pub WorkedRuns : Type 0
WorkedRuns = map (λ c. run_of c.table c.slots c.samples) cases ≡ map (λ c. c.comes_to) cases

-- a misreading: a gap equal to what remains of the upper end expires
abbrev pub early_moved : Interval → ℕ → ℕ → Option ℕ
early_moved i s g = cond (nat_lt (s + g) (last_shift i)) (Some (s + g)) None

-- by it an until of at most a minute fails at the gap of a minute, across which it is true
abbrev pub NotEarly : Type 0
NotEarly =
    (across plainly (minutes 0 (Some 1)) 0 (Some 1) (λ m. true) ≡ true)
    × (at_shift_or (λ m. true) false (early_moved (minutes 0 (Some 1)) 0 1) ≡ false)
    × ((run_of soon 128 ((10, 0) ∷ (11, 1) ∷ [])).told ≡ (Ok 0, []) ∷ (Ok 2, True (at 10 0) ∷ True (at 11 0) ∷ []) ∷ [])

-- a misreading: points with equal samples have the same outcome; here two of the same stamp and word are false and true
abbrev pub NotBySample : Type 0
NotBySample = (run_of a_minute_on 128 ((7, 1) ∷ (7, 1) ∷ (8, 1) ∷ [])).told ≡
    (Ok 0, []) ∷ (Ok 1, False (at 7 0) ∷ []) ∷ (Ok 1, True (at 7 1) ∷ []) ∷ []

-- a misreading: the waits 0 and 1 are replaced one after the other
abbrev pub replaced_singly : Condition → Condition → Condition → Condition
replaced_singly c d x = replaced (waiting 0 ∷ d ∷ []) (replaced (c ∷ waiting 1 ∷ []) x)

-- by it wait 0 stays where the two waits change places
abbrev pub NotSingly : Type 0
NotSingly =
    (alike (replaced (waiting 1 ∷ waiting 0 ∷ []) (waiting 0)) (waiting 1) ≡ true)
    × (alike (replaced_singly (waiting 1) (waiting 0) (waiting 0)) (waiting 0) ≡ true)
    × (alike (waiting 0) (waiting 1) ≡ false)
