-- The sizes of a condition's table, and the words that one can have.
use Rattle.std.specs.Prelude.{ℕ, ◌/◌, ◌%◌, ◌^◌, ◌<◌, Bool, List, ◌==◌, slice_index}

-- how many waits a condition can depend on
abbrev pub wait_count : ℕ
wait_count = 10

-- how many settings those have, each of which makes a wait true or false
abbrev pub settings : ℕ
settings = 2 ^ wait_count

-- how many words of 64 bits hold a bit for each setting
abbrev pub word_count : ℕ
word_count = settings / 64

-- whether bit k of a number is 1
abbrev pub bit : ℕ → ℕ → Bool
bit n k = n / 2 ^ k % 2 == 1

-- each word has 64 bits
abbrev pub Fit : List ℕ → Type 0
Fit ws = (i : ℕ) → i < word_count → slice_index ws i < 2 ^ 64
