-- The limits of a rule.
use Rattle.std.specs.Prelude.{ℕ, ◌-◌}
use Rattle.feed.specs.Entries.{letter_count}
use Rattle.truth.specs.Words.{wait_count}

-- letters are numbered from 0
abbrev pub last_letter : ℕ
last_letter = letter_count - 1

-- a low, and a high that is not the mark for no upper end, is at most this
abbrev pub longest_interval : ℕ
longest_interval = 20

-- the high that stands for no upper end
abbrev pub no_end : ℕ
no_end = 255

abbrev pub record_bytes : ℕ
record_bytes = 5

abbrev pub most_records : ℕ
most_records = 32

-- an open condition depends on no more
abbrev pub most_waits : ℕ
most_waits = wait_count

abbrev pub most_components : ℕ
most_components = 64

abbrev pub most_slots : ℕ
most_slots = 128
