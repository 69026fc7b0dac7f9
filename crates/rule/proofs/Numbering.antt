-- Where the components of a record lie among all, and what a record rests on.
use Rattle.std.proofs.Common.{◌≡◌, ℕ, ◌+◌, ◌-◌, ◌<◌, ◌≤◌, true, cond, List, length, get_or, take, IfSome, Some, None, sum_by, Option, refl, ap, arith}
use Rattle.std.specs.Option.{option_map}
use Rattle.std.proofs.lemmas.List.{take_all, take-take}
use Rattle.std.proofs.lemmas.List.Sums.{sum_by_more, sum_by-take-le}
use Rattle.std.proofs.lemmas.Bool.Decides.{nat_tests}
use Rattle.rule.specs.declared.interval.Interval.{Interval}
use Rattle.rule.specs.declared.record.Record.{Record}
use Rattle.rule.specs.declared.record.Record.TheVariants.{True, Letter, Not, And, Or, Previous, Since, Next, Until}
use Rattle.rule.specs.Intervals.{within, moved, last_shift}
use Rattle.rule.specs.Components.{shifts, first_component, components, left_of, right_of, earlier}
use Rattle.rule.specs.Records.{allowed, Sound}

pub first_more : (rs : List Record) (j : ℕ) → j < length rs → first_component rs (j + 1) ≡ first_component rs j + shifts (get_or rs j True)
first_more rs j h = sum_by_more shifts rs j True h

pub first_le : (rs : List Record) (j : ℕ) → first_component rs j ≤ components rs
first_le rs j = sum_by-take-le shifts rs j

pub first_all : (rs : List Record) → first_component rs (length rs) ≡ components rs
first_all rs = ap (sum_by shifts) (take_all (length rs) rs (omega arith))

pub shifts_some : (r : Record) → 0 < shifts r
shifts_some True = omega arith
shifts_some (Letter l) = omega arith
shifts_some (Not a) = omega arith
shifts_some (And a b) = omega arith
shifts_some (Or a b) = omega arith
shifts_some (Previous i a) = omega arith
shifts_some (Since i a b) = omega arith
shifts_some (Next i a) = omega arith
shifts_some (Until i a b) = omega arith

-- a record's components lie among all
pub first_room : (rs : List Record) (j : ℕ) → j < length rs → first_component rs j + shifts (get_or rs j True) ≤ components rs
first_room rs j h = omega (arith, first_more rs j h, first_le rs (j + 1))

pub first_lt : (rs : List Record) (j : ℕ) → j < length rs → first_component rs j < components rs
first_lt rs j h = omega (arith, first_room rs j h, shifts_some (get_or rs j True))

-- later records begin no earlier
pub first_up : (rs : List Record) (j m : ℕ) → first_component rs j ≤ first_component rs (j + m)
first_up rs j m = omega (arith, sum_by-take-le shifts (take (j + m) rs) j, ap (sum_by shifts) (take-take j (j + m) rs (omega arith)))

-- an earlier record begins earlier
pub first_mono : (rs : List Record) (a j : ℕ) → a < j → j < length rs → first_component rs a < first_component rs j
first_mono rs a j h l =
    let up = first_up rs (a + 1) (j - (a + 1)) in
    let same : a + 1 + (j - (a + 1)) ≡ j = omega arith in
    let more = first_more rs a (omega arith) in
    let some = shifts_some (get_or rs a True) in
    omega (arith, ap (first_component rs) same)

-- a moved shift is a shift
pub moved_le : (i : Interval) (s g t : ℕ) → moved i s g ≡ Some t → t ≤ last_shift i
moved_le i s g t e = grind (arith, nat_tests)

-- the arguments of a sound record are earlier records
pub left_earlier : (j a : ℕ) (r : Record) → allowed j r ≡ true → left_of r ≡ Some a → a < j
left_earlier j a True h e = cc
left_earlier j a (Letter l) h e = cc
left_earlier j a (Not b) h e = grind (arith, nat_tests)
left_earlier j a (And b d) h e = grind (arith, nat_tests)
left_earlier j a (Or b d) h e = grind (arith, nat_tests)
left_earlier j a (Previous i b) h e = grind (arith, nat_tests)
left_earlier j a (Since i b d) h e = grind (arith, nat_tests)
left_earlier j a (Next i b) h e = grind (arith, nat_tests)
left_earlier j a (Until i b d) h e = grind (arith, nat_tests)

pub right_earlier : (j a : ℕ) (r : Record) → allowed j r ≡ true → right_of r ≡ Some a → a < j
right_earlier j a True h e = cc
right_earlier j a (Letter l) h e = cc
right_earlier j a (Not b) h e = cc
right_earlier j a (And b d) h e = grind (arith, nat_tests)
right_earlier j a (Or b d) h e = grind (arith, nat_tests)
right_earlier j a (Previous i b) h e = cc
right_earlier j a (Since i b d) h e = grind (arith, nat_tests)
right_earlier j a (Next i b) h e = cc
right_earlier j a (Until i b d) h e = grind (arith, nat_tests)

-- what a sound record rests on one point before is a component
module _ (rs : List Record) (sound : Sound rs) (j : ℕ) (within-rs : j < length rs) where
  previous_lt : (i : Interval) (a g c : ℕ) → get_or rs j True ≡ Previous i a → cond (within i g) (Some (first_component rs a)) None ≡ Some c → c < components rs
  previous_lt i a g c e x =
      let lt : a < j = left_earlier j a (get_or rs j True) (sound j within-rs) (ap left_of e) in
      let room = first_lt rs a (omega arith) in
      grind (arith, nat_tests)

  since_lt : (i : Interval) (a b s g c : ℕ) → get_or rs j True ≡ Since i a b → option_map (λ t. first_component rs j + t) (moved i s g) ≡ Some c → c < components rs
  since_lt i a b s g c e x =
      let room = first_room rs j within-rs in
      let wide = ap shifts e in
      grind (arith, nat_tests)

  earlier_from : (r : Record) (s c : ℕ) (g : Option ℕ) → get_or rs j True ≡ r → earlier rs r (first_component rs j) s g ≡ Some c → c < components rs
  earlier_from r s c None q e = cc
  earlier_from True s c (Some g) q e = cc
  earlier_from (Letter l) s c (Some g) q e = cc
  earlier_from (Not a) s c (Some g) q e = cc
  earlier_from (And a b) s c (Some g) q e = cc
  earlier_from (Or a b) s c (Some g) q e = cc
  earlier_from (Previous i a) s c (Some g) q e = previous_lt i a g c q e
  earlier_from (Since i a b) s c (Some g) q e = since_lt i a b s g c q e
  earlier_from (Next i a) s c (Some g) q e = cc
  earlier_from (Until i a b) s c (Some g) q e = cc

  pub earlier_lt : (s c : ℕ) (g : Option ℕ) → earlier rs (get_or rs j True) (first_component rs j) s g ≡ Some c → c < components rs
  earlier_lt s c g e = earlier_from (get_or rs j True) s c g refl e

-- what holds of the value, if there is one
pub of_some : (o : Option ℕ) (P : ℕ → Type 0) → ((x : ℕ) → o ≡ Some x → P x) → IfSome o P
of_some None P h = tt
of_some (Some x) P h = h x refl
