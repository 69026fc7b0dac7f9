-- What is left to prove of `for_watch`.
use Rattle.rule.specs.Reading.{records, read_table, watch_questions}
use Rattle.rule.proofs.Readings.{asked_passed, watch_limits}
use Rattle.rule.proofs.table.Rule.for_watch.Goals as goal

pub returns : goal.returns
returns c =
    let rs = records c.in_ok-rule.rule in
    let passed = c.in_ok-ask_for_watch.ensures in
    record { answer = asked_passed (watch_questions c.args.slots) rs (read_table c.args.bytes.now) c.in_ok-rule.ensures passed; limits = watch_limits c.args.slots rs passed }
