-- What the loop of `put_card` keeps.
use Rattle.std.proofs.Common.{◌≡◌, ◌+◌, ◌≤◌, ◌++◌, length, vec_items}
use Rattle.feed.specs.Records.{entries_of}
use Rattle.feed.specs.RecordFeeds.{to_come}
use Rattle.printing.specs.Reports.{card_reports, printed}
use Rattle.watch.specs.States.{state}
use Rattle.printing.proofs.card.put_card.Given as goal

abbrev pub invariant-loop-feed : goal.invariant-loop-feed
invariant-loop-feed l =
    ((state l.watch).drawn + length (to_come l.feed) ≤ 10000) × (length l.tray ≡ 129)
    × (vec_items l.out ++ printed (card_reports (state l.watch) (to_come l.feed))
    ≡ vec_items l.initial.out ++ printed (card_reports (state l.initial.watch) (entries_of l.card)))

abbrev pub decreases-loop-feed : goal.decreases-loop-feed
decreases-loop-feed l = length (to_come l.feed)
