-- The conditions at the shifts passed so far are those of the record.
use Rattle.std.proofs.Common.{◌≡◌, ℕ, ◌<◌, get_or}
use Rattle.truth.specs.Tables.{openly}
use Rattle.rule.specs.Reading.{records}
use Rattle.logic.specs.Draws.{conditioned}
use Rattle.watch.proofs.fill.Filling.fill_shifts.Given as goal

abbrev pub invariant-loop-s : goal.invariant-loop-s
invariant-loop-s l =
    let a = l.self.arrival.now in
    (n : ℕ) → n < l.s → get_or l.own n openly.never ≡ conditioned (records l.self.rule.now) a.sample.letters a.gap l.self.before.now l.earlier l.becomes l.j n
