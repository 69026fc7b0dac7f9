-- The waits left become fewer.
use Rattle.truth.proofs.table.Condition.+carried.Given as goal

abbrev pub decreases-carried : goal.decreases-carried
decreases-carried l = l.waits
