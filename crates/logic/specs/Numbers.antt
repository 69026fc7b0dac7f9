-- Settings as numbers: bit w of a number is what it says of wait w.
use Rattle.std.specs.Prelude.{◌≡◌, ℕ, ◌^◌, ◌<◌, Bool}
use Rattle.truth.specs.declared.table.Condition.{Condition}
use Rattle.truth.specs.Words.{settings, bit}
use Rattle.truth.specs.Tables.{means}

-- the condition looks at the first m waits alone
abbrev pub Looks : ℕ → ((ℕ → Bool) → Bool) → Type 0
Looks m c = (v u : ℕ → Bool) → ((w : ℕ) → w < m → v w ≡ u w) → c v ≡ c u

-- conditions of m waits that agree at the numbers below 2 ^ m agree at every setting
abbrev pub KnownByNumbers : Type 0
KnownByNumbers = (m : ℕ) (c d : (ℕ → Bool) → Bool) → Looks m c → Looks m d → ((n : ℕ) → n < 2 ^ m → c (bit n) ≡ d (bit n)) →
    (v : ℕ → Bool) → c v ≡ d v

-- the table of a condition has its value at each number
abbrev pub Represents : Condition → ((ℕ → Bool) → Bool) → Type 0
Represents c f = (n : ℕ) → n < settings → means c n ≡ f (bit n)
