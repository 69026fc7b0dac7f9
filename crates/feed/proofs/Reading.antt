-- The entries of some bytes: one record on, and what holds of all.
use Rattle.std.proofs.Common.{Ok, ◌≡◌, ℕ, ◌+◌, ◌*◌, ◌≤◌, ltb, List, [], ◌∷◌, length, get_or, drop, refl, arith}
use Rattle.std.proofs.lemmas.Bool.{cond_both, ltb-true}
use Rattle.feed.specs.Entries.{Clear, SoundFrom, letter_limit}
use Rattle.feed.specs.Records.{entries_from, little_endian, record_content, spoiled}
use Rattle.feed.specs.declared.entry.Cause.TheVariants.{UpperBits}

-- bytes that begin with a whole record
pub read_more : (k : ℕ) (xs : List ℕ) → 6 ≤ length xs →
    entries_from k xs ≡ record { place = k; content = record_content (get_or xs 0 0) (get_or xs 1 0) (get_or xs 2 0) (get_or xs 3 0) (get_or xs 4 0) (get_or xs 5 0) }
    ∷ entries_from (k + 1) (drop 6 xs)
read_more k [] h = absurd (omega arith)
read_more k (a ∷ []) h = absurd (omega arith)
read_more k (a ∷ b ∷ []) h = absurd (omega arith)
read_more k (a ∷ b ∷ c ∷ []) h = absurd (omega arith)
read_more k (a ∷ b ∷ c ∷ d ∷ []) h = absurd (omega arith)
read_more k (a ∷ b ∷ c ∷ d ∷ low ∷ []) h = absurd (omega arith)
read_more k (a ∷ b ∷ c ∷ d ∷ low ∷ high ∷ rest) h = refl

clear_content : (a b c d low high : ℕ) → Clear (record_content a b c d low high)
clear_content a b c d low high =
    let stamp = little_endian (a ∷ b ∷ c ∷ d ∷ []) in
    let letters = little_endian (low ∷ high ∷ []) in
    cond_both (ltb letters letter_limit) (Ok (record { stamp = stamp; letters = letters })) (spoiled UpperBits) Clear
    (ltb-true letters letter_limit) (λ _. tt)

pub sound_entries : (k : ℕ) (xs : List ℕ) → SoundFrom k (entries_from k xs)
sound_entries k [] = tt
sound_entries k (a ∷ []) = (refl, tt, tt)
sound_entries k (a ∷ b ∷ []) = (refl, tt, tt)
sound_entries k (a ∷ b ∷ c ∷ []) = (refl, tt, tt)
sound_entries k (a ∷ b ∷ c ∷ d ∷ []) = (refl, tt, tt)
sound_entries k (a ∷ b ∷ c ∷ d ∷ low ∷ []) = (refl, tt, tt)
sound_entries k (a ∷ b ∷ c ∷ d ∷ low ∷ high ∷ rest) = (refl, clear_content a b c d low high, sound_entries (k + 1) rest)

-- a record has six bytes, and only the last may lack some
pub counted_entries : (k : ℕ) (xs : List ℕ) → (length xs ≤ 6 * length (entries_from k xs)) × (6 * length (entries_from k xs) ≤ length xs + 5)
counted_entries k [] = (omega arith, omega arith)
counted_entries k (a ∷ []) = (omega arith, omega arith)
counted_entries k (a ∷ b ∷ []) = (omega arith, omega arith)
counted_entries k (a ∷ b ∷ c ∷ []) = (omega arith, omega arith)
counted_entries k (a ∷ b ∷ c ∷ d ∷ []) = (omega arith, omega arith)
counted_entries k (a ∷ b ∷ c ∷ d ∷ low ∷ []) = (omega arith, omega arith)
counted_entries k (a ∷ b ∷ c ∷ d ∷ low ∷ high ∷ rest) = let more = counted_entries (k + 1) rest in (omega arith, omega arith)
