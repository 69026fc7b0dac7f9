-- The law of runs, and names of points.
use Rattle.logic.proofs.Names.{names_apart, lines_stay}
use Rattle.logic.proofs.Runs.{run_law, joins_held, held_young, run_few}
use Rattle.logic.proofs.theorems.runs_are_lawful.Goals as goal

pub returns : goal.returns
returns c = record { law = run_law; joins = joins_held; young = held_young; few = run_few; names = names_apart; lines = lines_stay }
