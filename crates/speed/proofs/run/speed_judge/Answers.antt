-- By what was read of the rule and how the pattern was made.
use Rattle.std.proofs.Common.{◌∙◌}
use Rattle.rule.specs.Reading.{asked, read_table, watch_questions}
use Rattle.feed.specs.Patterns.{pattern_answer, pattern_entries, pattern_left}
use Rattle.watch.specs.States.{state}
use Rattle.speed.proofs.Running.{run_through, unmade, unread}
use Rattle.speed.proofs.run.speed_judge.Goals as goal

pub returns-in-Err : goal.returns-in-Err
returns-in-Err c =
    let a = c.args in
    let both = unread (asked (watch_questions a.slots) (read_table a.bytes.now)) c.in-Err.refusal a.slots
    (pattern_answer a.first a.per a.words.now a.count) (pattern_entries a.first a.per a.words.now a.count) a.count a.counts.now
    c.in-Err.ensures.answer in
    record { answer = c.number.ensures ∙ both.0; counts = both.1 }

pub returns-in-Err-make : goal.returns-in-Err-make
returns-in-Err-make c =
    let a = c.args in
    let both = unmade (asked (watch_questions a.slots) (read_table a.bytes.now))
    (pattern_answer a.first a.per a.words.now a.count) _ c.in-Err-make.refusal a.slots (pattern_entries a.first a.per a.words.now a.count) a.count a.counts.now
    c.in_default.ensures.answer c.in-Err-make.ensures.answer in
    record { answer = c.number-in-Err-make.ensures ∙ both.0; counts = both.1 }

pub returns : goal.returns
returns c =
    let a = c.args in
    let both = run_through (asked (watch_questions a.slots) (read_table a.bytes.now))
    (pattern_answer a.first a.per a.words.now a.count) _ _ a.slots (pattern_entries a.first a.per a.words.now a.count) a.count a.counts.now
    c.in_default.ensures.answer c.in_default-make.ensures.answer
    (state c.new-watch.result) (state c.fit.new.self) (state c.draw_all-tally.new.watch) (pattern_left c.new-pattern.result) (pattern_left c.make.new.self)
    c.draw_all-tally.result _ c.fit.ensures.state c.make.ensures.left c.draw_all-tally.ensures.lines c.draw_all-tally.ensures.state (cc) in
    record { answer = both.0; counts = both.1 }
