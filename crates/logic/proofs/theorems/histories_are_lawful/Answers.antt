-- The promise over every history, and what a draw writes.
use Rattle.logic.proofs.Histories.{histories_kept, tray_enough, lines_counted}
use Rattle.logic.proofs.theorems.histories_are_lawful.Goals as goal

pub returns : goal.returns
returns c = record { promise = histories_kept; room = tray_enough; count = lines_counted }
