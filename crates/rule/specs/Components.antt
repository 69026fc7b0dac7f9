-- Components and waits of a table, and their numbers.
use Rattle.std.specs.Prelude.{◌≡◌, ℕ, ◌+◌, Bool, true, false, cond, ◌||◌, List, [], ◌∷◌, length, take, Some, None, sum_by, Option, slice_index_or}
use Rattle.std.specs.Option.{option_map}
use Rattle.rule.specs.declared.record.Record.{Record}
use Rattle.rule.specs.declared.record.Record.TheVariants.{True, Letter, Not, And, Or, Previous, Since, Next, Until}
use Rattle.rule.specs.declared.numbers.Numbers.{Numbers}
use Rattle.rule.specs.Intervals.{within, last_shift, moved}

-- the arguments of a record, if it has them
abbrev pub left_of : Record → Option ℕ
left_of True = None
left_of (Letter l) = None
left_of (Not a) = Some a
left_of (And a b) = Some a
left_of (Or a b) = Some a
left_of (Previous i a) = Some a
left_of (Since i a b) = Some a
left_of (Next i a) = Some a
left_of (Until i a b) = Some a

abbrev pub right_of : Record → Option ℕ
right_of True = None
right_of (Letter l) = None
right_of (Not a) = None
right_of (And a b) = Some b
right_of (Or a b) = Some b
right_of (Previous i a) = None
right_of (Since i a b) = Some b
right_of (Next i a) = None
right_of (Until i a b) = Some b

-- how many shifts a record has: a component is a record at one of its shifts
abbrev pub shifts : Record → ℕ
shifts True = 1
shifts (Letter l) = 1
shifts (Not a) = 1
shifts (And a b) = 1
shifts (Or a b) = 1
shifts (Previous i a) = 1
shifts (Since i a b) = last_shift i + 1
shifts (Next i a) = 1
shifts (Until i a b) = last_shift i + 1

-- how many waits a record has of its own: one for each component of a future operator
abbrev pub own_waits : Record → ℕ
own_waits True = 0
own_waits (Letter l) = 0
own_waits (Not a) = 0
own_waits (And a b) = 0
own_waits (Or a b) = 0
own_waits (Previous i a) = 0
own_waits (Since i a b) = 0
own_waits (Next i a) = 1
own_waits (Until i a b) = last_shift i + 1

-- components are numbered by record, then by shift: the number of the first component of record j
abbrev pub first_component : List Record → ℕ → ℕ
first_component rs j = sum_by shifts (take j rs)

-- how many components a table has
abbrev pub components : List Record → ℕ
components rs = sum_by shifts rs

-- waits are numbered likewise: the number of the first wait of record j
abbrev pub first_wait : List Record → ℕ → ℕ
first_wait rs j = sum_by own_waits (take j rs)

-- how many waits a table has
abbrev pub waits : List Record → ℕ
waits rs = sum_by own_waits rs

-- whether a record is a future operator
abbrev pub looks_ahead : Record → Bool
looks_ahead True = false
looks_ahead (Letter l) = false
looks_ahead (Not a) = false
looks_ahead (And a b) = false
looks_ahead (Or a b) = false
looks_ahead (Previous i a) = false
looks_ahead (Since i a b) = false
looks_ahead (Next i a) = true
looks_ahead (Until i a b) = true

-- whether a record of the table is a future operator
abbrev pub any_ahead : List Record → Bool
any_ahead [] = false
any_ahead (r ∷ rs) = looks_ahead r || any_ahead rs

-- the numbers of the first component or wait of each record, in a table of 32 places, and how many there are, which is the number past the
-- last record
abbrev pub Numbered : {C : Type 0} → (Record → ℕ) → List Record → Numbers C → Type 0
Numbered w rs n =
    (length n.first ≡ 32) × (n.total ≡ sum_by w rs)
    × ((j : ℕ) → slice_index_or n.first j n.total ≡ sum_by w (take j rs))

-- the component of the point before that record r at shift s rests on, where r's own first component has the number n and
-- the gap is g: none at a first point, where the gap does not fit, and at an expired shift
abbrev pub earlier : List Record → Record → ℕ → ℕ → Option ℕ → Option ℕ
earlier rs r n s None = None
earlier rs True n s (Some g) = None
earlier rs (Letter l) n s (Some g) = None
earlier rs (Not a) n s (Some g) = None
earlier rs (And a b) n s (Some g) = None
earlier rs (Or a b) n s (Some g) = None
earlier rs (Previous i a) n s (Some g) = cond (within i g) (Some (first_component rs a)) None
earlier rs (Since i a b) n s (Some g) = option_map (λ t. n + t) (moved i s g)
earlier rs (Next i a) n s (Some g) = None
earlier rs (Until i a b) n s (Some g) = None
