-- The entries of some bytes, read as records of six.
use Rattle.std.specs.Prelude.{ℕ, ◌+◌, ◌*◌, cond, Ok, Err, List, [], ◌∷◌, nat_lt}
use Rattle.feed.specs.Entries.{Content, letter_limit}
use Rattle.feed.specs.declared.entry.Entry.{Entry}
use Rattle.feed.specs.declared.entry.Cause.{Cause}
use Rattle.feed.specs.declared.entry.Cause.TheVariants.{UpperBits, ShortRecord}

-- the number that some bytes write, the least byte first
abbrev pub little_endian : List ℕ → ℕ
little_endian [] = 0
little_endian (b ∷ bs) = b + 256 * little_endian bs

-- a spoiled entry's content; a record feed has the height 0
abbrev pub spoiled : Cause → Content
spoiled cause = Err (record { cause = cause; height = 0 })

-- the content of a whole record: its sample, unless an upper bit of the letters is set
abbrev pub record_content : ℕ → ℕ → ℕ → ℕ → ℕ → ℕ → Content
record_content a b c d low high =
    let letters = little_endian (low ∷ high ∷ []) in
    cond (nat_lt letters letter_limit)
    (Ok (record { stamp = little_endian (a ∷ b ∷ c ∷ d ∷ []); letters = letters }))
    (spoiled UpperBits)

-- the entries of some bytes, the first of which has the place k
abbrev pub entries_from : ℕ → List ℕ → List Entry
entries_from k [] = []
entries_from k (a ∷ []) = record { place = k; content = spoiled ShortRecord } ∷ []
entries_from k (a ∷ b ∷ []) = record { place = k; content = spoiled ShortRecord } ∷ []
entries_from k (a ∷ b ∷ c ∷ []) = record { place = k; content = spoiled ShortRecord } ∷ []
entries_from k (a ∷ b ∷ c ∷ d ∷ []) = record { place = k; content = spoiled ShortRecord } ∷ []
entries_from k (a ∷ b ∷ c ∷ d ∷ low ∷ []) = record { place = k; content = spoiled ShortRecord } ∷ []
entries_from k (a ∷ b ∷ c ∷ d ∷ low ∷ high ∷ rest) =
    record { place = k; content = record_content a b c d low high } ∷ entries_from (k + 1) rest

-- the entries of some bytes
abbrev pub entries_of : List ℕ → List Entry
entries_of bytes = entries_from 0 bytes
