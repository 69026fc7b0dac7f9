-- What a watch says over a run of accepted points, and the law of that.
use Rattle.std.specs.Prelude.{◌≡◌, ℕ, suc, ◌+◌, ◌-◌, ◌*◌, ◌^◌, ◌<◌, ◌≤◌, Bool, true, false, cond, List, [], ◌∷◌, ◌++◌, map, length, count_by, nat_eq, nat_lt}
use Rattle.std.specs.List.{ContainsAt as Has, AllByRecursion}
use Rattle.rule.specs.declared.record.Record.{Record}
use Rattle.logic.specs.Logic.{Stream, Sat, Not, Accepted, Begins}
use Rattle.logic.specs.Tables.{rule}
use Rattle.logic.specs.Waits.{open_at}
use Rattle.logic.specs.Verdicts.{Rising}
use Rattle.logic.specs.Reach.{reach, Over, stamp_of}
use Rattle.logic.specs.Flat.{Flat, futures, longest, Undecided, Different, Pairwise}

-- what is said of accepted points, by their numbers: the rule is true or false at one, or at a later one as at an earlier one
pub data Verdict : Type 0 where
  true_at : ℕ → Verdict
  false_at : ℕ → Verdict
  joined : ℕ → ℕ → Verdict

-- the point that a verdict is about
abbrev pub subject : Verdict → ℕ
subject (true_at i) = i
subject (false_at i) = i
subject (joined i j) = i

-- the points `is` are each treated once, after those in `kept`, which were treated before and held: the verdicts, and which are held
pub data Treats (rs : List Record) (ps : List (Accepted Bool)) : List ℕ → List ℕ → List Verdict → List ℕ → Type 0 where
  none_left : {kept : List ℕ} → Treats rs ps kept [] [] []
  is_true : {i : ℕ} {kept is held : List ℕ} {ls : List Verdict} → ((v : ℕ → Bool) → open_at rs ps i v ≡ true) →
      Treats rs ps kept is ls held → Treats rs ps kept (i ∷ is) (true_at i ∷ ls) held
  is_false : {i : ℕ} {kept is held : List ℕ} {ls : List Verdict} → ((v : ℕ → Bool) → open_at rs ps i v ≡ false) →
      Treats rs ps kept is ls held → Treats rs ps kept (i ∷ is) (false_at i ∷ ls) held
  is_same : {i j : ℕ} {kept is held : List ℕ} {ls : List Verdict} → Has kept j → ((v : ℕ → Bool) → open_at rs ps i v ≡ open_at rs ps j v) →
      Treats rs ps kept is ls held → Treats rs ps kept (i ∷ is) (joined i j ∷ ls) held
  is_open : {i : ℕ} {kept is held : List ℕ} {ls : List Verdict} → Not ((v : ℕ → Bool) → open_at rs ps i v ≡ true) →
      Not ((v : ℕ → Bool) → open_at rs ps i v ≡ false) → AllByRecursion (λ j. Different rs ps j i) kept →
      Treats rs ps (i ∷ kept) is ls held → Treats rs ps kept (i ∷ is) ls (i ∷ held)

-- a run: the accepted points, newest first, all verdicts so far, and the points held now, earliest first
pub data Run (rs : List Record) : List (Accepted Bool) → List Verdict → List ℕ → Type 0 where
  fitted : Run rs [] [] []
  accepts : {p : Accepted Bool} {ps : List (Accepted Bool)} {before now : List Verdict} {old held : List ℕ} → Run rs ps before old → Rising (p ∷ ps) →
      Treats rs (p ∷ ps) [] (old ++ (length ps ∷ [])) now held → Run rs (p ∷ ps) (before ++ now) held

-- what a verdict says is so in the stream
abbrev pub Truthful : List Record → Stream Bool → Verdict → Type 0
Truthful rs ρ (true_at i) = Sat ρ (rule rs) i
Truthful rs ρ (false_at i) = Not (Sat ρ (rule rs) i)
Truthful rs ρ (joined i j) = (Sat ρ (rule rs) i → Sat ρ (rule rs) j) × (Sat ρ (rule rs) j → Sat ρ (rule rs) i)

-- a joined point is later than the point that it is joined to
abbrev pub Backward : Verdict → Type 0
Backward (true_at i) = Unit {0}
Backward (false_at i) = Unit {0}
Backward (joined i j) = j < i

-- the point that another is joined to has the property
abbrev pub Joins : (ℕ → Type 0) → Verdict → Type 0
Joins P (true_at i) = Unit {0}
Joins P (false_at i) = Unit {0}
Joins P (joined i j) = P j

pub record Lawful (rs : List Record) (ps : List (Accepted Bool)) (ls : List Verdict) (held : List ℕ) : Type 0 where
  -- every verdict is so under every endless continuation
  pub sound : (ρ : Stream Bool) → Begins ρ ps → AllByRecursion (Truthful rs ρ) ls
  -- each accepted point is settled, joined or held, once, and no other point is
  pub once : (i : ℕ) → count_by (nat_eq i) (map subject ls ++ held) ≡ cond (nat_lt i (length ps)) 1 0
  -- so the verdicts and the held points are as many as the accepted points
  pub total : length ls + length held ≡ length ps
  pub backward : AllByRecursion Backward ls
  -- the held points stand earliest first, and their conditions are open and different
  pub ordered : Pairwise ◌<◌ held
  pub undecided : AllByRecursion (Undecided rs ps) held
  pub apart : Pairwise (Different rs ps) held

abbrev pub RunLaw : Type 0
RunLaw = (rs : List Record) (ps : List (Accepted Bool)) (ls : List Verdict) (held : List ℕ) → Run rs ps ls held → Lawful rs ps ls held

-- a point is joined only to one that is held after the same points are treated
abbrev pub JoinsHeld : Type 0
JoinsHeld = (rs : List Record) (ps : List (Accepted Bool)) (is held : List ℕ) (ls : List Verdict) → Treats rs ps [] is ls held → AllByRecursion (Joins (Has held)) ls

-- no held point is older than the newest by more than the reach
abbrev pub HeldYoung : Type 0
HeldYoung = (rs : List Record) (p : Accepted Bool) (ps : List (Accepted Bool)) (ls : List Verdict) (held : List ℕ) → Run rs (p ∷ ps) ls held →
    AllByRecursion (λ i. Not (Over (reach (rule rs)) (p.stamp - stamp_of (p ∷ ps) i))) held

-- a flat rule holds few points
abbrev pub RunFew : Type 0
RunFew = (rs : List Record) (ps : List (Accepted Bool)) (ls : List Verdict) (held : List ℕ) → Run rs ps ls held → Flat (rule rs) →
    length held ≤ (2 ^ (2 ^ futures rs) - 2) * suc (longest rs)
