-- Numbers in decimals.
use Rattle.std.specs.Prelude.{◌≡◌, ℕ, ◌+◌, ◌-◌, ◌*◌, ◌<◌, ◌≤◌, cond, List, [], ◌∷◌, map, codes, ◌==◌, slice_index}
use Rattle.std.specs.Int.Digits.{digits_of}
use Rattle.std.specs.List.{AllByRecursion}

-- the byte of a digit
abbrev pub digit : ℕ → ℕ
digit d = 48 + d

-- a number in decimals, with no leading zero
unfoldable pub decimal : ℕ → List ℕ
decimal n = cond (n == 0) (digit 0 ∷ []) (map digit (digits_of 10 n))

-- the number that some digits write, after the number n
abbrev pub read_on : ℕ → List ℕ → ℕ
read_on n [] = n
read_on n (b ∷ bs) = read_on (n * 10 + (b - 48)) bs

-- decimals read back as their number, are digits, begin with a 0 only if the number is 0, and are then just that
abbrev pub DecimalsStand : Type 0
DecimalsStand =
    (n : ℕ) →
    (read_on 0 (decimal n) ≡ n) × AllByRecursion (λ b. (48 ≤ b) × (b ≤ 57)) (decimal n) × (0 < n → 48 < slice_index (decimal n) 0)
    × (n ≡ 0 → decimal n ≡ codes "0")
