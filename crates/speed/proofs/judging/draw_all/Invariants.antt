-- So many draws are made, and their lines counted.
use Rattle.std.proofs.Common.{◌≡◌, length}
use Rattle.watch.specs.States.{state}
use Rattle.speed.proofs.Counting.{Further}
use Rattle.speed.proofs.judging.draw_all.Given as goal

abbrev pub invariant-loop-k : goal.invariant-loop-k
invariant-loop-k g l =
    (length l.tray ≡ 129)
    × Further (state l.initial.watch) (g.F.Feed.entries l.initial.feed) l._k (state l.watch) (g.F.Feed.entries l.feed) l.tally
