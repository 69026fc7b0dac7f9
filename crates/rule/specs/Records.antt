-- What the five bytes of a record say, and the questions that each record is asked.
use Rattle.std.specs.Prelude.{◌≡◌, ℕ, ◌<◌, Bool, true, cond, not, ◌&&◌, ◌||◌, List, length, Some, None, Ok, Err, Option, Result, ◌==◌, nat_le, nat_lt, slice_index_or}
use Rattle.rule.specs.declared.interval.Interval.{Interval}
use Rattle.rule.specs.declared.record.Record.{Record}
use Rattle.rule.specs.declared.record.Record.TheVariants.{True, Letter, Not, And, Or, Previous, Since, Next, Until}
use Rattle.rule.specs.declared.refusal.RuleRefusal.{RuleRefusal}
use Rattle.rule.specs.declared.refusal.RuleRefusal.TheVariants as refusal
use Rattle.rule.specs.Limits.{last_letter, longest_interval, no_end}

-- the interval of two bytes
abbrev pub interval_of : ℕ → ℕ → Interval
interval_of low high = record { low = low; high = cond (high == no_end) None (Some high) }

-- the record of five bytes, whose kind is at most 8
abbrev pub record_of : ℕ → ℕ → ℕ → ℕ → ℕ → Record
record_of kind left right low high =
    cond (kind == 0) True
    (cond (kind == 1) (Letter left)
    (cond (kind == 2) (Not left)
    (cond (kind == 3) (And left right)
    (cond (kind == 4) (Or left right)
    (cond (kind == 5) (Previous (interval_of low high) left)
    (cond (kind == 6) (Since (interval_of low high) left right)
    (cond (kind == 7) (Next (interval_of low high) left)
    (Until (interval_of low high) left right))))))))

-- which fields a kind uses
abbrev pub uses_left : ℕ → Bool
uses_left kind = nat_le 2 kind && nat_le kind 8

abbrev pub uses_right : ℕ → Bool
uses_right kind = kind == 3 || kind == 4 || kind == 6 || kind == 8

abbrev pub uses_interval : ℕ → Bool
uses_interval kind = nat_le 5 kind && nat_le kind 8

-- are the arguments that are used earlier records than record j?
abbrev pub arguments_earlier : ℕ → ℕ → ℕ → ℕ → Bool
arguments_earlier j kind left right =
    (not (uses_left kind) || nat_lt left j) && (not (uses_right kind) || nat_lt right j)

-- is a letter at most the last, and every unused field zero?
abbrev pub fields_allowed : ℕ → ℕ → ℕ → ℕ → ℕ → Bool
fields_allowed kind left right low high =
    cond (kind == 1) (nat_le left last_letter) (uses_left kind || left == 0)
    && (uses_right kind || right == 0)
    && (uses_interval kind || low == 0)
    && (uses_interval kind || high == 0)

-- is the low at most 20, and the high from low to 20, or the mark for no upper end?
abbrev pub interval_allowed : ℕ → ℕ → Bool
interval_allowed low high = nat_le low longest_interval && nat_le low high && (nat_le high longest_interval || high == no_end)

-- the questions that record j is asked, in their order
abbrev pub checked : ℕ → ℕ → ℕ → ℕ → ℕ → ℕ → Result (Unit {0}) RuleRefusal
checked j kind left right low high =
    cond (nat_le kind 8)
    (cond (arguments_earlier j kind left right)
    (cond (fields_allowed kind left right low high)
    (cond (not (uses_interval kind) || interval_allowed low high)
    (Ok tt)
    (Err refusal.Interval))
    (Err refusal.Field))
    (Err refusal.Argument))
    (Err refusal.Kind)

abbrev pub high_allowed : ℕ → Option ℕ → Bool
high_allowed low None = true
high_allowed low (Some high) = nat_le low high && nat_le high longest_interval

-- an interval that can be in a rule
abbrev pub allowed_interval : Interval → Bool
allowed_interval i = nat_le i.low longest_interval && high_allowed i.low i.high

-- a record that can be record j of a rule
abbrev pub allowed : ℕ → Record → Bool
allowed j True = true
allowed j (Letter l) = nat_le l last_letter
allowed j (Not a) = nat_lt a j
allowed j (And a b) = nat_lt a j && nat_lt b j
allowed j (Or a b) = nat_lt a j && nat_lt b j
allowed j (Previous i a) = nat_lt a j && allowed_interval i
allowed j (Since i a b) = nat_lt a j && nat_lt b j && allowed_interval i
allowed j (Next i a) = nat_lt a j && allowed_interval i
allowed j (Until i a b) = nat_lt a j && nat_lt b j && allowed_interval i

-- each record of a table can stand where it does
abbrev pub Sound : List Record → Type 0
Sound rs = (j : ℕ) → j < length rs → allowed j (slice_index_or rs j True) ≡ true
