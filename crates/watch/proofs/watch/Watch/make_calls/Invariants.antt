-- The first calls are made.
use Rattle.watch.specs.States.{state}
use Rattle.watch.proofs.Calling.{Made}
use Rattle.watch.proofs.watch.Watch.make_calls.Given as goal

abbrev pub invariant-loop-i : goal.invariant-loop-i
invariant-loop-i g l =
    Made (state l.initial.self) (g.F.Feed.entries l.initial.feed) l.calls l.initial.answers l.i (state l.self) (g.F.Feed.entries l.feed) l.answers
