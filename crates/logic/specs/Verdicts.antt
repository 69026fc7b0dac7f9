-- What constant and equal conditions say: it holds under every endless continuation of the accepted points.
use Rattle.std.specs.Prelude.{◌≡◌, ℕ, ◌≤◌, Bool, true, false, List, [], ◌∷◌, length}
use Rattle.rule.specs.declared.record.Record.{Record}
use Rattle.logic.specs.Logic.{Stream, Sat, Accepted, Begins}
use Rattle.logic.specs.Tables.{rule}
use Rattle.logic.specs.Waits.{open_at}

-- a condition that is true at every setting: the rule is true at the point
abbrev pub SoundTrue : Type 0
SoundTrue = (rs : List Record) (p : Accepted Bool) (ps : List (Accepted Bool)) (i : ℕ) → i ≤ length ps →
    ((v : ℕ → Bool) → open_at rs (p ∷ ps) i v ≡ true) → (ρ : Stream Bool) → Begins ρ (p ∷ ps) → Sat ρ (rule rs) i

-- a condition that is false at every setting: the rule is false at the point
abbrev pub SoundFalse : Type 0
SoundFalse = (rs : List Record) (p : Accepted Bool) (ps : List (Accepted Bool)) (i : ℕ) → i ≤ length ps →
    ((v : ℕ → Bool) → open_at rs (p ∷ ps) i v ≡ false) → (ρ : Stream Bool) → Begins ρ (p ∷ ps) → Sat ρ (rule rs) i → ⊥

-- two conditions that are the same at every setting: the rule is true at both points or at neither
abbrev pub SoundJoined : Type 0
SoundJoined = (rs : List Record) (p : Accepted Bool) (ps : List (Accepted Bool)) (i j : ℕ) → i ≤ length ps → j ≤ length ps →
    ((v : ℕ → Bool) → open_at rs (p ∷ ps) i v ≡ open_at rs (p ∷ ps) j v) → (ρ : Stream Bool) → Begins ρ (p ∷ ps) →
    (Sat ρ (rule rs) i → Sat ρ (rule rs) j) × (Sat ρ (rule rs) j → Sat ρ (rule rs) i)

-- the stamps of accepted points never fall
abbrev pub Rising : {T : Type 0} → List (Accepted T) → Type 0
Rising [] = Unit {0}
Rising (p ∷ []) = Unit {0}
Rising (p ∷ (q ∷ ps)) = (q.stamp ≤ p.stamp) × Rising (q ∷ ps)

-- any such points have an endless continuation
abbrev pub Continues : Type 0
Continues = (p : Accepted Bool) (ps : List (Accepted Bool)) → Rising (p ∷ ps) → (ρ : Stream Bool) × Begins ρ (p ∷ ps)
