-- The worked runs and the refuted misreadings, by computation.
use Rattle.std.proofs.Common.{refl}
use Rattle.truth.specs.Replacing.{packed}
use Rattle.truth.specs.Tables.{table}
use Rattle.logic.specs.Examples.{WorkedRuns, NotEarly, NotBySample, NotSingly}

pub worked_runs : WorkedRuns
unfolding table packed
worked_runs = refl

pub not_early : NotEarly
unfolding table packed
not_early = (refl, refl, refl)

pub not_by_sample : NotBySample
unfolding table packed
not_by_sample = refl

pub not_singly : NotSingly
unfolding table packed
not_singly = (refl, refl, refl)
