-- The values at the shifts passed so far are those of the record.
use Rattle.std.proofs.Common.{◌≡◌, ℕ, ◌<◌, get_or}
use Rattle.rule.specs.declared.record.Record.TheVariants.{True}
use Rattle.rule.specs.Reading.{records}
use Rattle.rule.specs.Components.{first_component}
use Rattle.instant.specs.Step.{valued}
use Rattle.instant.proofs.shelf.Step.fill_shifts.Given as goal

abbrev pub invariant-loop-s : goal.invariant-loop-s
invariant-loop-s g l =
    let k = g.T.Truth.ops in
    let rs = records l.self.rule.now in
    (n : ℕ) → n < l.s → get_or l.own n k.never ≡ valued k rs l.self.letters.now l.self.gap l.earlier l.self.before.now (get_or rs l.j True) (first_component rs l.j) n
