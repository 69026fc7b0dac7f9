-- The first held point that has the condition is found.
use Rattle.std.proofs.Common.{◌≡◌, Bool, true, false, cond, List, [], ◌∷◌, Some, None, Option, Bor, refl, ◌∙◌, ap, rules}
use Rattle.std.proofs.lemmas.Iterator.{YieldsList-from_slice}
use Rattle.std.proofs.lemmas.Iterator.Search.{find_from_yields_List}
use Rattle.std.specs.List.{find}
use Rattle.std.specs.Option.{option_map}
use Rattle.truth.specs.declared.table.Condition.{Condition}
use Rattle.logic.specs.declared.verdict.HeldPoint.{HeldPoint}
use Rattle.logic.specs.Draws.{alike, found}
use Rattle.watch.proofs.Lookups.{alike_is}
use Rattle.watch.proofs.treating.find.Goals as goal

by_test : (b : Bool) (h : HeldPoint) (o : Option HeldPoint) → option_map (λ (h : HeldPoint). h.point) (cond b (Some h) o) ≡ cond b (Some h.point) (option_map (λ (h : HeldPoint). h.point) o)
by_test true h o = refl
by_test false h o = refl

found_is : (c : Condition) (xs : List HeldPoint) → option_map (λ (h : HeldPoint). h.point) (find (λ h. alike c h.condition) xs) ≡ found c xs
found_is c [] = refl
found_is c (x ∷ xs) = by_test (alike c x.condition) x (find (λ h. alike c h.condition) xs) ∙ ap (cond (alike c x.condition) (Some x.point)) (found_is c xs)

named : (o : Option (Bor HeldPoint)) → option_map (λ (x : Bor HeldPoint). x.now.point) o ≡ option_map (λ (h : HeldPoint). h.point) (option_map (λ x. x.now) o)
named None = refl
named (Some x) = refl

pub returns : goal.returns
returns c =
    let d = c.args.condition.now in
    let xs = c.args.held.now in
    let first : option_map (λ (x : Bor HeldPoint). x.now) c.find.result ≡ find (λ h. alike d h.condition) xs =
    find_from_yields_List (λ (h : HeldPoint). alike d h.condition) _ _ c.find.result c.find.ensures.ran (YieldsList-from_slice xs (search rules)) (λ x b q k. (search rules, alike_is d x.now.condition b (search rules))) in
    let mapped : c.map.result ≡ option_map (λ (x : Bor HeldPoint). x.now.point) c.find.result = search rules in
    mapped ∙ named c.find.result ∙ ap (option_map (λ (h : HeldPoint). h.point)) first ∙ found_is d xs
