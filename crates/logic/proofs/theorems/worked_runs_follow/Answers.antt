-- Worked runs and misreadings.
use Rattle.logic.proofs.Examples.{worked_runs, not_early, not_by_sample, not_singly}
use Rattle.logic.proofs.theorems.worked_runs_follow.Goals as goal

pub returns : goal.returns
returns c = record { runs = worked_runs; expiry = not_early; samples = not_by_sample; together = not_singly }
