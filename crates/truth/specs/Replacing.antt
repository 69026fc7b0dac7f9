-- Conditions made from a function of the setting, single waits, and all waits of a condition replaced together.
use Rattle.std.specs.Prelude.{ℕ, zero, suc, ◌+◌, ◌*◌, ◌^◌, ◌<◌, Bool, true, false, cond, List, slice_index_or}
use Rattle.std.proofs.Math.Nat.{two-pow-succ}
use Rattle.std.proofs.Common.{arith}
use Rattle.truth.specs.Words.{wait_count, bit}
use Rattle.truth.specs.Tables.{means, made, openly}
use Rattle.truth.specs.declared.table.Condition.{Condition}

-- the number whose bits below n are those of f
unfoldable pub packed : (ℕ → Bool) → ℕ → ℕ
packed f zero = 0
packed f (suc n) = packed f n + cond (f n) (2 ^ n) 0

pub packed_lt : (f : ℕ → Bool) (n : ℕ) → packed f n < 2 ^ n
unfolding packed
packed_lt f zero = omega arith
packed_lt f (suc n) =
    let low = packed_lt f n in
    let double = two-pow-succ n in
    elim (f n) as (λ b. packed f n + cond b (2 ^ n) 0 < 2 ^ suc n) [ true ↦ omega arith | false ↦ omega arith ]

-- the condition whose value at setting n is f n
abbrev pub tabled : (ℕ → Bool) → Condition
tabled f = made (λ i. packed (λ j. f (64 * i + j)) 64) (λ i l. packed_lt (λ j. f (64 * i + j)) 64)

-- the condition that is wait w alone
abbrev pub waiting : ℕ → Condition
waiting w = tabled (λ n. bit n w)

-- whether the condition for wait w holds at setting n; a wait without a condition is false
abbrev pub replacing : List Condition → ℕ → ℕ → Bool
replacing cs n w = means (slice_index_or cs w openly.never) n

-- the setting that the conditions cs, one for each wait, make of setting n
abbrev pub setting_of : List Condition → ℕ → ℕ
setting_of cs n = packed (replacing cs n) wait_count

-- all waits of c replaced together, each by its condition
abbrev pub replaced : List Condition → Condition → Condition
replaced cs c = tabled (λ n. means c (setting_of cs n))

-- c at the settings from base on, with each wait below w replaced by its condition
abbrev pub partly : List Condition → Condition → ℕ → ℕ → Condition
partly cs c w base = tabled (λ n. means c (base + packed (replacing cs n) w))
