-- What a watch holds after a fitting.
use Rattle.std.specs.Prelude.{ℕ, Ok, Err}
use Rattle.rule.specs.Reading.{Read}
use Rattle.logic.specs.States.{State, fitted}

-- newly fitted with the records that were read, or as it was where the fitting is refused
abbrev pub after_fitting : Read → ℕ → State → State
after_fitting (Ok rs) slots old = fitted rs slots
after_fitting (Err e) slots old = old
