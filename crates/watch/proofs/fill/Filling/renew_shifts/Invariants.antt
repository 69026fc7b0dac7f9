-- The waits passed so far are renewed.
use Rattle.std.proofs.Common.{◌≡◌, ◌+◌, ℕ, ◌<◌, get_or}
use Rattle.truth.specs.Tables.{openly}
use Rattle.rule.specs.Reading.{records}
use Rattle.rule.specs.Components.{first_component}
use Rattle.logic.specs.Draws.{among}
use Rattle.logic.specs.Steps.{renewed}
use Rattle.logic.specs.Tables.{row}
use Rattle.watch.proofs.fill.Filling.renew_shifts.Given as goal

abbrev pub invariant-loop-s : goal.invariant-loop-s
invariant-loop-s l =
    let rs = records l.self.rule.now in
    (n : ℕ) → n < l.s → get_or l.own n openly.never ≡ renewed openly (row rs l.j) l.self.arrival.now.gap (λ a s. among l.values (first_component rs a + s)) l.j n
