-- The formulas of a rule's table.
use Rattle.std.specs.Prelude.{◌≡◌, ℕ, zero, suc, ◌-◌, ◌<◌, cond, List, length, ◌==◌, slice_index_or}
use Rattle.rule.specs.declared.record.Record.{Record}
use Rattle.rule.specs.declared.record.Record.TheVariants.{True, Letter, Not, And, Or, Previous, Since, Next, Until}
use Rattle.logic.specs.Logic.{Formula, truth, letter, negation, conjunction, disjunction, previous, since, next, until}

-- record j; True past the end of the table
abbrev pub row : List Record → ℕ → Record
row rs j = slice_index_or rs j True

-- a record's formula, from those of the other records
abbrev pub built : (ℕ → Formula) → Record → Formula
built f True = truth
built f (Letter l) = letter l
built f (Not a) = negation (f a)
built f (And a b) = conjunction (f a) (f b)
built f (Or a b) = disjunction (f a) (f b)
built f (Previous i a) = previous i (f a)
built f (Since i a b) = since i (f a) (f b)
built f (Next i a) = next i (f a)
built f (Until i a b) = until i (f a) (f b)

-- the formula of record j among the first n records, each built from the records before it; truth where there is none
unfoldable pub formulas : List Record → ℕ → ℕ → Formula
formulas rs zero j = truth
formulas rs (suc n) j = cond (j == n) (built (formulas rs n) (row rs n)) (formulas rs n j)

-- the formula of record j
abbrev pub formula : List Record → ℕ → Formula
formula rs j = formulas rs (length rs) j

-- the formula of a rule is that of its last record
abbrev pub rule : List Record → Formula
rule rs = formula rs (length rs - 1)

-- the arguments of record j are earlier records
abbrev pub Below : ℕ → Record → Type 0
Below j True = Unit {0}
Below j (Letter l) = Unit {0}
Below j (Not a) = a < j
Below j (And a b) = (a < j) × (b < j)
Below j (Or a b) = (a < j) × (b < j)
Below j (Previous i a) = a < j
Below j (Since i a b) = (a < j) × (b < j)
Below j (Next i a) = a < j
Below j (Until i a b) = (a < j) × (b < j)

-- every record has earlier arguments
abbrev pub Earlier : List Record → Type 0
Earlier rs = (j : ℕ) → j < length rs → Below j (row rs j)

-- each record's formula is built from those of its arguments
abbrev pub FormulasBuilt : Type 0
FormulasBuilt = (rs : List Record) (j : ℕ) → Earlier rs → j < length rs → formula rs j ≡ built (formula rs) (row rs j)
