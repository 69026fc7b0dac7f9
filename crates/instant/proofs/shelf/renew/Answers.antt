-- A first point has no gap.
use Rattle.std.proofs.Common.{◌≡◌, ℕ, Bool, true, false, not, is_some, Some, None, Option, length, refl, ap, ◌∙◌}
use Rattle.instant.specs.Step.{kept, is_first}
use Rattle.instant.proofs.shelf.renew.Goals as goal

first_is : (g : Option ℕ) (r : Bool) → is_some g ≡ not r → r ≡ is_first g
first_is None true e = refl
first_is None false e = e
first_is (Some x) true e = e
first_is (Some x) false e = refl

pub returns-clause-before : goal.returns-clause-before
returns-clause-before g c =
    let vs = c.args.values.now in
    c.keep.ensures ∙ ap (λ b. kept g.T.Truth.ops b (length vs) vs) (first_is c.args.gap c.is_none.result c.is_none.ensures)
