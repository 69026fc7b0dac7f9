-- What the loop of `Numbers::of` keeps: the places before j have their numbers, and the total is the number of record j.
use Rattle.std.proofs.Common.{◌≡◌, ℕ, ◌*◌, ◌<◌, ◌≤◌, get_or, take, sum_by}
use Rattle.rule.proofs.numbers.Numbers.of.Given as goal

abbrev pub invariant-loop-j : goal.invariant-loop-j
invariant-loop-j g l =
    (l.total ≡ sum_by g.C.Counted.counted (take l.j l.records)) × (l.total ≤ 256 * l.j)
    × ((k : ℕ) → k < l.j → get_or l.place-items k 0 ≡ sum_by g.C.Counted.counted (take k l.records))
