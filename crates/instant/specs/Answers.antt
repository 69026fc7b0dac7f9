-- What the calls of the instant watch answer.
use Rattle.std.specs.Prelude.{ℕ, ◌*◌, cond, List, Ok, Err, Option, Result, ◌==◌, nat_le}
use Rattle.feed.specs.Entries.{letter_count}
use Rattle.rule.specs.Reading.{Read}
use Rattle.rule.specs.declared.record.Record.{Record}
use Rattle.rule.specs.declared.refusal.RuleRefusal.{RuleRefusal}
use Rattle.instant.specs.declared.refusal.StepRefusal.{StepRefusal}
use Rattle.instant.specs.declared.refusal.StepRefusal.TheVariants.{Letters, Shelf, Stamp}
use Rattle.instant.specs.Step.{late}

-- the number of the question that was answered no; a refusal has no other value
abbrev pub step_number : StepRefusal → ℕ
step_number Letters = 41
step_number Shelf = 42
step_number Stamp = 25

-- the questions of a step at stamp t, in their order, with n components, p the stamp of the newest point, if any, and so
-- many letters and places on the shelf
abbrev pub step_answer : ℕ → Option ℕ → ℕ → ℕ → ℕ → Result (Unit {0}) StepRefusal
step_answer n p t given shelf =
    cond (given == letter_count)
    (cond (nat_le (2 * n) shelf)
    (cond (late p t)
    (Err Stamp)
    (Ok tt))
    (Err Shelf))
    (Err Letters)

-- what a fitting answers, by what was read
abbrev pub fit_answer : Read → Result (Unit {0}) RuleRefusal
fit_answer (Ok rs) = Ok tt
fit_answer (Err e) = Err e

-- the records after a fitting: those that were read, or the old ones where it is refused
abbrev pub fitted_records : Read → List Record → List Record
fitted_records (Ok rs) old = rs
fitted_records (Err e) old = old

-- an answer with the rule's value in it
abbrev pub with_value : {T : Type 0} → Result (Unit {0}) StepRefusal → T → Result T StepRefusal
with_value (Ok u) x = Ok x
with_value (Err e) x = Err e
