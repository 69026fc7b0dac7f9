-- Letters of a sample, the numbers of causes, and what holds of every list of entries.
use Rattle.std.specs.Prelude.{◌≡◌, ℕ, ◌+◌, ◌^◌, ◌<◌, Bool, List, [], ◌∷◌, Ok, Err, Result}
use Rattle.truth.specs.Words.{bit}
use Rattle.feed.specs.declared.entry.Sample.{Sample}
use Rattle.feed.specs.declared.entry.Fault.{Fault}
use Rattle.feed.specs.declared.entry.Entry.{Entry}
use Rattle.feed.specs.declared.entry.Cause.{Cause}
use Rattle.feed.specs.declared.entry.Cause.TheVariants.{UpperBits, ShortRecord, StampRange}

-- how many letters there are
abbrev pub letter_count : ℕ
letter_count = 12

-- a word below this has only letters
abbrev pub letter_limit : ℕ
letter_limit = 2 ^ letter_count

-- whether a word has letter k
abbrev pub letter_of : ℕ → ℕ → Bool
letter_of w k = bit w k

-- the number of a cause
abbrev pub cause_number : Cause → ℕ
cause_number UpperBits = 1
cause_number ShortRecord = 2
cause_number StampRange = 3

-- what an entry holds: a sample, or it is spoiled by a fault
abbrev pub Content : Type 0
Content = Result Sample Fault

-- a sample has no upper bit
abbrev pub Clear : Content → Type 0
Clear (Ok s) = s.letters < letter_limit
Clear (Err f) = Unit {0}

-- the places count from k, and no sample has an upper bit
abbrev pub SoundFrom : ℕ → List Entry → Type 0
SoundFrom k [] = Unit {0}
SoundFrom k (e ∷ es) = (e.place ≡ k) × Clear e.content × SoundFrom (k + 1) es
