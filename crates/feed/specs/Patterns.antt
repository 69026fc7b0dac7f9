-- The entries of a pattern, and the making of one.
use Rattle.std.specs.Prelude.{◌≡◌, ℕ, zero, suc, ◌+◌, ◌-◌, ◌/◌, ◌%◌, ◌^◌, Bool, true, cond, ◌&&◌, ◌||◌, List, [], ◌∷◌, length, Ok, Err, Result, ◌==◌, nat_le, nat_lt, slice_index}
use Rattle.feed.specs.Entries.{letter_limit}
use Rattle.feed.specs.declared.entry.Entry.{Entry}
use Rattle.feed.specs.declared.pattern.Pattern.{Pattern}
use Rattle.feed.specs.declared.pattern.PatternRefusal.{PatternRefusal}
use Rattle.feed.specs.declared.pattern.PatternRefusal.TheVariants.{WordCount, Word, PerStamp, LastStamp}

-- the entry at place k, with the stamp s + k / r and word number k mod w of ws
abbrev pub pattern_entry : ℕ → ℕ → List ℕ → ℕ → ℕ → Entry
pattern_entry s r ws w k = record { place = k; content = Ok (record { stamp = s + k / r; letters = slice_index ws (k % w) }) }

-- n entries, the first of which has the place k
abbrev pub pattern_from : ℕ → ℕ → List ℕ → ℕ → ℕ → ℕ → List Entry
pattern_from s r ws w k zero = []
pattern_from s r ws w k (suc n) = pattern_entry s r ws w k ∷ pattern_from s r ws w (k + 1) n

-- the c entries from the stamp s, r to a stamp, with the words ws in turn
abbrev pub pattern_entries : ℕ → ℕ → List ℕ → ℕ → List Entry
pattern_entries s r ws c = pattern_from s r ws (length ws) 0 c

-- the entries that a pattern has still to give
abbrev pub pattern_left : Pattern → List Entry
pattern_left p = pattern_from p.first p.per p.words p.used p.next (p.count - p.next)

-- whether each word has only letters
abbrev pub all_letters : List ℕ → Bool
all_letters [] = true
all_letters (w ∷ ws) = nat_lt w letter_limit && all_letters ws

-- what the making of a pattern answers: the first question that is answered no, if one is
abbrev pub pattern_answer : ℕ → ℕ → List ℕ → ℕ → Result (Unit {0}) PatternRefusal
pattern_answer s r ws c =
    cond (nat_lt 0 (length ws) && nat_le (length ws) 8)
    (cond (all_letters ws)
    (cond (nat_lt 0 r)
    (cond (c == 0 || nat_lt (s + (c - 1) / r) (2 ^ 32)) (Ok tt) (Err LastStamp))
    (Err PerStamp))
    (Err Word))
    (Err WordCount)

-- the new entries after a good answer, else the old ones
abbrev pub taken : Result (Unit {0}) PatternRefusal → List Entry → List Entry → List Entry
taken (Ok _) new old = new
taken (Err _) new old = old

-- the entries still to come after a making, where they were old before it
abbrev pub left_after : ℕ → ℕ → List ℕ → ℕ → List Entry → List Entry
left_after s r ws c old = taken (pattern_answer s r ws c) (pattern_entries s r ws c) old

-- a refusal leaves the whole pattern as it was
abbrev pub Unchanged : Result (Unit {0}) PatternRefusal → Pattern → Pattern → Type 0
Unchanged (Ok _) before after = Unit {0}
Unchanged (Err _) before after = after ≡ before

-- the number of a refusal
abbrev pub pattern_number : PatternRefusal → ℕ
pattern_number WordCount = 31
pattern_number Word = 32
pattern_number PerStamp = 33
pattern_number LastStamp = 34
