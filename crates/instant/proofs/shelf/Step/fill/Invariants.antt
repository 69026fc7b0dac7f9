-- The values of the records passed so far are filled in.
use Rattle.std.proofs.Common.{◌≡◌}
use Rattle.rule.specs.Reading.{records}
use Rattle.feed.specs.Lists.{onto}
use Rattle.instant.proofs.Values.{front}
use Rattle.instant.proofs.shelf.Step.fill.Given as goal

abbrev pub invariant-loop-j : goal.invariant-loop-j
invariant-loop-j g l =
    l.values ≡ onto (front g.T.Truth.ops (records l.self.rule.now) l.self.letters.now l.self.gap l.self.before.now l.j) l.initial.values
