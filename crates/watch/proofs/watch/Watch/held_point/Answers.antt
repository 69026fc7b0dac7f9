-- The name of the k-th of the points in use.
use Rattle.std.proofs.Common.{◌≡◌, ℕ, zero, suc, ◌<◌, ◌≤◌, List, [], ◌∷◌, length, take, Some, None, Option, Bor, refl, ap, ◌∙◌, rules, arith}
use Rattle.std.specs.List.{HoldsAt}
use Rattle.std.specs.Option.{MatchOption, option_map}
use Rattle.logic.specs.declared.verdict.HeldPoint.{HeldPoint}
use Rattle.logic.specs.Draws.{name_at}
use Rattle.watch.proofs.watch.Watch.held_point.Goals as goal

-- a point that is lent from index k, if there is one
lent_name : (xs : List HeldPoint) (k : ℕ) (o : Option (Bor HeldPoint)) →
    MatchOption o (length xs ≤ k) (λ x. (k < length xs) × HoldsAt (λ y. x.now ≡ y) xs k) → option_map (λ x. x.now.point) o ≡ name_at xs k
lent_name [] k None h = refl
lent_name [] k (Some x) h = absurd (omega arith)
lent_name (y ∷ xs) zero None h = absurd (omega arith)
lent_name (y ∷ xs) zero (Some x) h = ap (λ (p : HeldPoint). Some p.point) (h.1 y)
lent_name (y ∷ xs) (suc k) None h = lent_name xs k None (omega arith)
lent_name (y ∷ xs) (suc k) (Some x) h = lent_name xs k (Some x) (omega arith, h.1)

pub returns : goal.returns
returns c =
    let s = c.args.self.now in
    let named : c.map.result ≡ option_map (λ (x : Bor HeldPoint). x.now.point) c.get.result = search rules in
    named ∙ lent_name (take s.count s.held) c.args.k c.get.result c.get.ensures.lookup.3
