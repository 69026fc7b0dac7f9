-- The first letters are those of the new sample.
use Rattle.watch.proofs.Spelling.{Spelled}
use Rattle.watch.proofs.letters.spell.Given as goal

abbrev pub invariant-loop-k : goal.invariant-loop-k
invariant-loop-k l = Spelled l.old.letters l.new.letters l.k l.letters
