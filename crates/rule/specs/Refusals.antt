-- The numbers of the questions that a rule is asked when it is fitted.
use Rattle.std.specs.Prelude.{ℕ}
use Rattle.rule.specs.declared.refusal.RuleRefusal.{RuleRefusal}
use Rattle.rule.specs.declared.refusal.RuleRefusal.TheVariants.{Length, Kind, Argument, Field, Interval, Waits, Components, Slots, LooksAhead}

-- the number of the question that was answered no; a refusal has no other value
abbrev pub refusal_number : RuleRefusal → ℕ
refusal_number Length = 1
refusal_number Kind = 2
refusal_number Argument = 3
refusal_number Field = 4
refusal_number Interval = 5
refusal_number Waits = 6
refusal_number Components = 7
refusal_number Slots = 8
refusal_number LooksAhead = 9
