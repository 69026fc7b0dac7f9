-- Intervals of minutes and their shifts.
use Rattle.std.specs.Prelude.{ℕ, ◌+◌, ◌-◌, min, Bool, true, cond, ◌&&◌, Some, None, Option, nat_le}
use Rattle.rule.specs.declared.interval.Interval.{Interval}

-- a number is not past the upper end, if there is one
abbrev pub up_to : Option ℕ → ℕ → Bool
up_to None d = true
up_to (Some h) d = nat_le d h

-- a number of minutes lies in the interval
abbrev pub within : Interval → ℕ → Bool
within i d = nat_le i.low d && up_to i.high d

abbrev pub last_for : Option ℕ → ℕ → ℕ
last_for None low = low
last_for (Some h) low = h

-- the last of the shifts 0, 1, 2 .. that an interval has: its high, or its low where there is no upper end
abbrev pub last_shift : Interval → ℕ
last_shift i = last_for i.high i.low

abbrev pub moved_for : Option ℕ → ℕ → ℕ → Option ℕ
moved_for None low to = Some (min to low)
moved_for (Some h) low to = cond (nat_le to h) (Some to) None

-- the shift to which a gap g moves the shift s: none if it passes the upper end, which is to expire
abbrev pub moved : Interval → ℕ → ℕ → Option ℕ
moved i s g = moved_for i.high i.low (s + g)

abbrev pub high_at : Option ℕ → ℕ → Option ℕ
high_at None s = None
high_at (Some h) s = Some (h - s)

-- the interval at shift s: from low - s, but not below 0, to high - s
abbrev pub at_shift : ℕ → Interval → Interval
at_shift s i = record { low = i.low - s; high = high_at i.high s }

-- the interval at shift s begins at 0
abbrev pub begun : Interval → ℕ → Bool
begun i s = nat_le i.low s
