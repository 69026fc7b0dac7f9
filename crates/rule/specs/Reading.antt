-- What the bytes of a rule table say, and the questions of the fitting in their order.
use Rattle.std.specs.Prelude.{◌≡◌, ℕ, ◌+◌, ◌*◌, ◌%◌, ◌<◌, ◌≤◌, Bool, cond, ◌&&◌, List, [], ◌∷◌, ◌++◌, length, take, Ok, Err, Result, ◌==◌, nat_le}
use Rattle.rule.specs.declared.record.Record.{Record}
use Rattle.rule.specs.declared.refusal.RuleRefusal.{RuleRefusal}
use Rattle.rule.specs.declared.refusal.RuleRefusal.TheVariants as refusal
use Rattle.rule.specs.declared.table.Rule.{Rule}
use Rattle.rule.specs.Limits.{record_bytes, most_records, most_waits, most_components, most_slots}
use Rattle.rule.specs.Records.{checked, record_of, Sound}
use Rattle.rule.specs.Components.{waits, components, any_ahead}

-- a rule's records, or why there is none
abbrev pub Read : Type 0
Read = Result (List Record) RuleRefusal

-- a refusal, if there is one, else what is read after it
abbrev pub unless : Result (Unit {0}) RuleRefusal → Read → Read
unless (Ok x) after = after
unless (Err e) after = Err e

-- some records, and then those that are read after them
abbrev pub preceded : List Record → Read → Read
preceded rs (Ok qs) = Ok (rs ++ qs)
preceded rs (Err e) = Err e

-- the records of some bytes, the first of which is record j
abbrev pub read_from : ℕ → List ℕ → Read
read_from j [] = Ok []
read_from j (a ∷ []) = Err refusal.Length
read_from j (a ∷ b ∷ []) = Err refusal.Length
read_from j (a ∷ b ∷ c ∷ []) = Err refusal.Length
read_from j (a ∷ b ∷ c ∷ d ∷ []) = Err refusal.Length
read_from j (kind ∷ left ∷ right ∷ low ∷ high ∷ rest) =
    unless (checked j kind left right low high) (preceded (record_of kind left right low high ∷ []) (read_from (j + 1) rest))

-- are there 1 to 32 whole records?
abbrev pub length_allowed : ℕ → Bool
length_allowed n = nat_le record_bytes n && nat_le n (most_records * record_bytes) && n % record_bytes == 0

-- the first five questions: the length, and then each record in turn
abbrev pub read_table : List ℕ → Read
read_table bytes = cond (length_allowed (length bytes)) (read_from 0 bytes) (Err refusal.Length)

-- the further questions of a watch, in their order: waits, components and slots
abbrev pub watch_questions : ℕ → List Record → Result (Unit {0}) RuleRefusal
watch_questions slots rs =
    cond (nat_le (waits rs) most_waits)
    (cond (nat_le (components rs) most_components)
    (cond (nat_le 1 slots && nat_le slots most_slots)
    (Ok tt)
    (Err refusal.Slots))
    (Err refusal.Components))
    (Err refusal.Waits)

-- the further questions of an instant watch: no future operator, and components
abbrev pub instant_questions : List Record → Result (Unit {0}) RuleRefusal
instant_questions rs =
    cond (any_ahead rs)
    (Err refusal.LooksAhead)
    (cond (nat_le (components rs) most_components)
    (Ok tt)
    (Err refusal.Components))

-- records that are asked further questions
abbrev pub asked : (List Record → Result (Unit {0}) RuleRefusal) → Read → Read
asked questions (Err e) = Err e
asked questions (Ok rs) = unless (questions rs) (Ok rs)

-- the records of a rule, the first one first
abbrev pub records : Rule → List Record
records r = take r.len r.table

-- what a call that reads a rule answers
abbrev pub told : Result Rule RuleRefusal → Read
told (Ok r) = Ok (records r)
told (Err e) = Err e

-- what a watch can rest on in the records that it is fitted with
pub record Fitting (rs : List Record) : Type 0 where
  pub sound : Sound rs
  pub some : 0 < length rs
  pub few : waits rs ≤ most_waits

-- a table that passes all questions has such records
abbrev pub TablesSound : Type 0
TablesSound = (slots : ℕ) (bytes : List ℕ) (rs : List Record) → asked (watch_questions slots) (read_table bytes) ≡ Ok rs → Fitting rs
