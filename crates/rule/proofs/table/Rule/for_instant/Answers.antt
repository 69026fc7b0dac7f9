-- What is left to prove of `for_instant`.
use Rattle.rule.specs.Reading.{records, read_table, instant_questions}
use Rattle.rule.proofs.Readings.{asked_passed, instant_limits}
use Rattle.rule.proofs.table.Rule.for_instant.Goals as goal

pub returns : goal.returns
returns c =
    let rs = records c.in_ok-rule.rule in
    let passed = c.in_ok-ask_for_instant.ensures in
    record { answer = asked_passed instant_questions rs (read_table c.args.bytes.now) c.in_ok-rule.ensures passed; limits = instant_limits rs passed }
