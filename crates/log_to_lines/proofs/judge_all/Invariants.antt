-- As many entries are left as the feed has still to give.
use Rattle.std.proofs.Common.{length}
use Rattle.feed.specs.RecordFeeds.{to_come}
use Rattle.log_to_lines.proofs.judge_all.Given as goal

abbrev pub decreases-loop-entry : goal.decreases-loop-entry
decreases-loop-entry l = length (to_come l.feed)
