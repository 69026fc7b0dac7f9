-- What the loop of `fill` keeps.
use Rattle.std.proofs.Common.{◌≡◌, length}
use Rattle.feed.specs.Lists.{onto}
use Rattle.rule.specs.Reading.{records}
use Rattle.logic.specs.Draws.{filled}
use Rattle.watch.proofs.fill.fill.Given as goal

abbrev pub invariant-loop-j : goal.invariant-loop-j
invariant-loop-j l =
    let now = filled (records l.rule) l.arrival.sample.letters l.arrival.gap l.before l.j in
    (length l.values ≡ length l.initial.values) × (length l.becomes ≡ length l.initial.becomes)
    × (l.values ≡ onto now.values l.initial.values) × (l.becomes ≡ onto now.becomes l.initial.becomes)
