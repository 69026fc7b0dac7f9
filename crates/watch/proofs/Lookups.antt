-- Conditions that are the same.
use Rattle.std.proofs.Common.{◌≡◌, Bool, Decides}
use Rattle.std.proofs.lemmas.Bool.Decides.{same_from_decides}
use Rattle.truth.specs.declared.table.Condition.{Condition}
use Rattle.logic.specs.Draws.{alike}
use Rattle.logic.proofs.Represented.{alike_decides}

-- a test of sameness is that of the definitions
pub alike_is : (a b : Condition) (r : Bool) → Decides r (a ≡ b) → r ≡ alike a b
alike_is a b r d = same_from_decides r (alike a b) d (alike_decides a b)
