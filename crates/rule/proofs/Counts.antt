-- Components and waits of a table, counted.
use Rattle.std.proofs.Common.{◌≡◌, ℕ, ◌+◌, ◌<◌, ◌≤◌, ltb, List, [], ◌∷◌, length, get_or, take, sum_by, refl, arith}
use Rattle.std.proofs.lemmas.List.Sums.{sum_by-drop_more, sum_by_more, sum_by-take-le}
use Rattle.std.proofs.lemmas.Bool.{lt-ltb}
use Rattle.rule.specs.declared.record.Record.{Record}
use Rattle.rule.specs.declared.record.Record.TheVariants.{True, Letter, Not, And, Or, Previous, Since, Next, Until}
use Rattle.rule.specs.Components.{own_waits, waits, any_ahead}

-- a future operator is a record with a wait of its own
pub waits_ahead : (rs : List Record) → ltb 0 (waits rs) ≡ any_ahead rs
waits_ahead [] = refl
waits_ahead (True ∷ rs) = waits_ahead rs
waits_ahead (Letter l ∷ rs) = waits_ahead rs
waits_ahead (Not a ∷ rs) = waits_ahead rs
waits_ahead (And a b ∷ rs) = waits_ahead rs
waits_ahead (Or a b ∷ rs) = waits_ahead rs
waits_ahead (Previous i a ∷ rs) = waits_ahead rs
waits_ahead (Since i a b ∷ rs) = waits_ahead rs
waits_ahead (Next i a ∷ rs) = lt-ltb 0 (waits (Next i a ∷ rs)) (omega (arith, sum_by-drop_more own_waits (Next i a ∷ rs) 0 True (omega arith)))
waits_ahead (Until i a b ∷ rs) = lt-ltb 0 (waits (Until i a b ∷ rs)) (omega (arith, sum_by-drop_more own_waits (Until i a b ∷ rs) 0 True (omega arith)))

-- a record's numbers lie among all
pub numbers_room : (w : Record → ℕ) (rs : List Record) (j : ℕ) → j < length rs → sum_by w (take j rs) + w (get_or rs j True) ≤ sum_by w rs
numbers_room w rs j h = omega (arith, sum_by_more w rs j True h, sum_by-take-le w rs (j + 1))
