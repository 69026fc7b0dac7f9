-- What a step of the instant watch makes of its shelf.
use Rattle.std.specs.Prelude.{ℕ, ◌-◌, Bool, true, false, cond, List, [], ◌∷◌, ◌++◌, map, length, take, replicate, Some, None, Option, nat_lt, slice_index_or}
use Rattle.std.specs.List.{range_with_len}
use Rattle.truth.specs.Laws.{Ops}
use Rattle.feed.specs.Lists.{onto}
use Rattle.rule.specs.declared.record.Record.{Record}
use Rattle.logic.specs.Steps.{evaluated}
use Rattle.rule.specs.Components.{left_of, right_of, shifts, first_component, components, earlier}

-- letter l of the letters that are given; never where it is not given
abbrev pub lettered : {T : Type 0} → Ops T → List T → ℕ → T
lettered k ls l = slice_index_or ls l k.never

-- the value of an argument among the newest values vs; never where there is none
abbrev pub argument : {T : Type 0} → Ops T → List Record → List T → Option ℕ → T
argument k rs vs None = k.never
argument k rs vs (Some a) = slice_index_or vs (first_component rs a) k.never

-- the value of a component among the values bs of the point before; never where there is none
abbrev pub before : {T : Type 0} → Ops T → List T → Option ℕ → T
before k bs None = k.never
before k bs (Some c) = slice_index_or bs c k.never

-- the value of record r at shift s, whose first component has the number n: vs has the newest values of earlier records, bs
-- the values of all components at the point before, and g is the gap, if there is a point before
abbrev pub valued : {T : Type 0} → Ops T → List Record → List T → Option ℕ → List T → List T → Record → ℕ → ℕ → T
valued k rs ls g vs bs r n s = evaluated k r s (lettered k ls) (argument k rs vs (left_of r)) (argument k rs vs (right_of r)) (before k bs (earlier rs r n s g))

-- the values of one record at its shifts
abbrev pub row : {T : Type 0} → Ops T → List Record → List T → Option ℕ → List T → List T → Record → List T
row k rs ls g vs bs r = map (λ s. valued k rs ls g vs bs r (length vs) s) (range_with_len 0 (shifts r))

-- the values vs, and then those of the records qs, which are the last of rs
abbrev pub filled : {T : Type 0} → Ops T → List Record → List T → Option ℕ → List T → List Record → List T → List T
filled k rs ls g bs [] vs = vs
filled k rs ls g bs (q ∷ qs) vs = filled k rs ls g bs qs (vs ++ row k rs ls g vs bs q)

-- the newest values of all components
abbrev pub newest : {T : Type 0} → Ops T → List Record → List T → Option ℕ → List T → List T
newest k rs ls g bs = filled k rs ls g bs rs []

-- the values at the point before, which a step keeps behind the newest; never at the first step
abbrev pub kept : {T : Type 0} → Ops T → Bool → ℕ → List T → List T
kept k first n S = cond first (replicate n k.never) (take n S)

-- the gap from the newest point, if there is one
abbrev pub gap_from : Option ℕ → ℕ → Option ℕ
gap_from None t = None
gap_from (Some s) t = Some (t - s)

abbrev pub is_first : Option ℕ → Bool
is_first None = true
is_first (Some g) = false

-- a stamp below that of the newest point
abbrev pub late : Option ℕ → ℕ → Bool
late None t = false
late (Some s) t = nat_lt t s

-- the newest values over the shelf S at a point with the gap g, or at a first point
abbrev pub values_at : {T : Type 0} → Ops T → List Record → Option ℕ → List T → List T → List T
values_at k rs g ls S = newest k rs ls g (kept k (is_first g) (components rs) S)

-- the shelf with them and, behind, the values before
abbrev pub advanced : {T : Type 0} → Ops T → List Record → Option ℕ → List T → List T → List T
advanced k rs g ls S = onto (values_at k rs g ls S ++ kept k (is_first g) (components rs) S) S

-- the newest values after a step at stamp t over the shelf S, where the newest point before it, if any, has the stamp p
abbrev pub values : {T : Type 0} → Ops T → List Record → Option ℕ → ℕ → List T → List T → List T
values k rs p t ls S = values_at k rs (gap_from p t) ls S

-- the shelf after that step
abbrev pub shelf_after : {T : Type 0} → Ops T → List Record → Option ℕ → ℕ → List T → List T → List T
shelf_after k rs p t ls S = advanced k rs (gap_from p t) ls S

-- the value of the rule, which is its last record
abbrev pub ruled : {T : Type 0} → Ops T → List Record → List T → T
ruled k rs vs = slice_index_or vs (first_component rs (length rs - 1)) k.never
