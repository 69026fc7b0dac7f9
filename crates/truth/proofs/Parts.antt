-- Conditions with the waits below one replaced: none, one more, and all.
use Rattle.std.proofs.Common.{◌≡◌, ℕ, zero, suc, ◌+◌, ◌-◌, ◌%◌, ◌^◌, ◌<◌, ◌≤◌, min, Bool, true, false, cond, not, ◌&&◌, ◌||◌, List, length, get_or, sym, refl, ap, ◌∙◌, ap₂, inl, inr, add-zero, zero-add, arith, rules}
use native.Mathlib.Nat.{add-mod_right}
use Rattle.std.proofs.lemmas.Nat.{mod-pow-add}
use Rattle.std.proofs.lemmas.List.{get_or_past}
use Rattle.std.proofs.lemmas.Bool.{cases_lt}
use Rattle.truth.specs.Words.{settings, wait_count}
use Rattle.truth.specs.Tables.{means, openly}
use Rattle.truth.specs.Replacing.{packed, packed_lt, replacing, setting_of, partly, replaced}
use Rattle.truth.specs.declared.table.Condition.{Condition}
use Rattle.truth.specs.Meaning.{meant}
use Rattle.truth.proofs.Packing.{is_tabled, means_tabled}

-- a multiple of a power is one of the power before it, and so is the setting half a power on
pub aligned : (from w : ℕ) → from % 2 ^ suc w ≡ 0 → from % 2 ^ w ≡ 0
aligned from w z =
    let e : suc w ≡ 1 + w = omega arith in
    let split = mod-pow-add from 1 w in
    let same : from % 2 ^ suc w ≡ from % 2 ^ (1 + w) = ap (λ x. from % 2 ^ x) e in
    omega arith

pub aligned_high : (from w : ℕ) → from % 2 ^ suc w ≡ 0 → (from + 2 ^ w) % 2 ^ w ≡ 0
aligned_high from w z = add-mod_right from (2 ^ w) ∙ aligned from w z

choice : (b x y : Bool) → ((b && x) || (not b && y)) ≡ cond b x y
choice b x y = search rules

split_at : (c : Condition) (from p q : ℕ) (b : Bool) → means c (from + (p + cond b q 0)) ≡ cond b (means c (from + q + p)) (means c (from + p))
split_at c from p q true = let e : from + (p + q) ≡ from + q + p = omega arith in ap (means c) e
split_at c from p q false = ap (λ x. means c (from + x)) (add-zero p)

constantly : (b : Bool) (n : ℕ) → n < settings → means (cond b openly.always openly.never) n ≡ b
constantly true n h = meant.always n h
constantly false n h = meant.never n h

module _ (cs : List Condition) (c : Condition) (from : ℕ) where
  -- no wait is replaced
  pub part_none : (d : Condition) (b : Bool) → d ≡ cond b openly.always openly.never → b ≡ means c from → d ≡ partly cs c 0 from
  unfolding packed
  part_none d b e at = is_tabled d _ (λ n h. ap (λ x. means x n) e ∙ constantly b n h ∙ at ∙ ap (means c) (sym (add-zero from)))

  module _ (w : ℕ) where
    -- by the value of the highest wait
    split : (n : ℕ) → let p = packed (replacing cs n) w in
        means c (from + packed (replacing cs n) (suc w)) ≡ cond (replacing cs n w) (means c (from + 2 ^ w + p)) (means c (from + p))
    unfolding packed
    split n = split_at c from (packed (replacing cs n) w) (2 ^ w) (replacing cs n w)

    -- the highest wait does not matter
    part_skip : (low : Condition) → low ≡ partly cs c w from
        → ((n : ℕ) (b : Bool) → replacing cs n w ≡ b → n < settings → let p = packed (replacing cs n) w in
        means c (from + p) ≡ cond b (means c (from + 2 ^ w + p)) (means c (from + p)))
        → low ≡ partly cs c (suc w) from
    part_skip low e same =
        is_tabled low _ (λ n h.
        ap (λ d. means d n) e ∙ means_tabled (λ i. means c (from + packed (replacing cs i) w)) n h
        ∙ same n (replacing cs n w) refl h ∙ sym (split n))

    -- both halves are the same
    pub part_same : (low : Condition) → low ≡ partly cs c w from
        → ((k : ℕ) → k < 2 ^ w → means c (from + k) ≡ means c (from + 2 ^ w + k)) → low ≡ partly cs c (suc w) from
    part_same low e same =
        part_skip low e (λ n b _ h. let p = packed (replacing cs n) w in
        elim b as (λ v. means c (from + p) ≡ cond v (means c (from + 2 ^ w + p)) (means c (from + p))) [
          | true ↦ same p (packed_lt (replacing cs n) w)
          | false ↦ refl
        ])

    -- the highest wait has no condition
    pub part_past : (low : Condition) → low ≡ partly cs c w from → length cs ≤ w → low ≡ partly cs c (suc w) from
    part_past low e past =
        part_skip low e (λ n b at h. let p = packed (replacing cs n) w in
        let none : replacing cs n w ≡ false = ap (λ d. means d n) (get_or_past cs w openly.never past) ∙ meant.never n h in
        ap (λ v. cond v (means c (from + 2 ^ w + p)) (means c (from + p))) (sym none ∙ at))

    -- by the condition for the highest wait
    chosen : (d low high : Condition) → d ≡ get_or cs w openly.never
        → low ≡ partly cs c w from → high ≡ partly cs c w (from + 2 ^ w)
        → (n : ℕ) → n < settings → cond (means d n) (means high n) (means low n) ≡ means c (from + packed (replacing cs n) (suc w))
    chosen d low high at el eh n h =
        let p = packed (replacing cs n) w in
        let on : means high n ≡ means c (from + 2 ^ w + p) = ap (λ r. means r n) eh ∙ means_tabled (λ i. means c (from + 2 ^ w + packed (replacing cs i) w)) n h in
        let off : means low n ≡ means c (from + p) = ap (λ r. means r n) el ∙ means_tabled (λ i. means c (from + packed (replacing cs i) w)) n h in
        ap₂ (cond (means d n)) on off
        ∙ ap (λ r. cond (means r n) (means c (from + 2 ^ w + p)) (means c (from + p))) at
        ∙ sym (split n)

    pub part_more : (d low high first other second r : Condition) (q : ℕ) → d ≡ get_or cs w openly.never
        → low ≡ partly cs c w from → high ≡ partly cs c w (from + q) → q ≡ 2 ^ w
        → first ≡ openly.both d high → other ≡ openly.not d → second ≡ openly.both other low → r ≡ openly.either first second
        → r ≡ partly cs c (suc w) from
    part_more d low high first other second r q at el eh eq ef eo es er =
        is_tabled r _ (λ n h.
        ap (λ x. means x n) er ∙ meant.either first second n h
        ∙ ap₂ ◌||◌
        (ap (λ x. means x n) ef ∙ meant.both d high n h)
        (ap (λ x. means x n) es ∙ meant.both other low n h ∙ ap (λ b. b && means low n) (ap (λ x. means x n) eo ∙ meant.not d n h))
        ∙ choice (means d n) (means high n) (means low n)
        ∙ chosen d low high at el (eh ∙ ap (λ x. partly cs c w (from + x)) eq) n h)

-- waits without a condition make no difference
part_up : (cs : List Condition) (c : Condition) (from k m : ℕ) → m + k ≡ wait_count → length cs ≤ m → partly cs c m from ≡ partly cs c wait_count from
part_up cs c from zero m e h = let same : m ≡ wait_count = omega arith in ap (λ x. partly cs c x from) same
part_up cs c from (suc k) m e h =
    part_past cs c from m (partly cs c m from) refl h
    ∙ part_up cs c from k (suc m) (omega arith) (omega arith)

pub part_rest : (cs : List Condition) (c : Condition) (from m : ℕ) → m ≡ min (length cs) wait_count → partly cs c m from ≡ partly cs c wait_count from
part_rest cs c from m e =
    elim (cases_lt (length cs) wait_count) [
      | inl few ↦ part_up cs c from (wait_count - m) m (omega arith) (omega arith)
      | inr many ↦ (let same : m ≡ wait_count = omega arith in ap (λ x. partly cs c x from) same)
    ]

-- every wait is replaced
pub part_all : (cs : List Condition) (c : Condition) → partly cs c 10 0 ≡ replaced cs c
part_all cs c = is_tabled (partly cs c 10 0) (λ n. means c (setting_of cs n)) (λ n h. means_tabled (λ i. means c (0 + setting_of cs i)) n h ∙ ap (means c) (zero-add (setting_of cs n)))
