-- Runs of the instant watch, and what the logic says of the values that they leave on the shelf.
use Rattle.std.specs.Prelude.{◌≡◌, ℕ, ◌+◌, ◌<◌, Bool, false, List, [], ◌∷◌, map, length, Some, None, Ok, Option, slice_index_or}
use Rattle.std.specs.List.{range_with_len}
use Rattle.truth.specs.Laws.{Ops}
use Rattle.feed.specs.Entries.{letter_of, letter_count}
use Rattle.rule.specs.declared.record.Record.{Record}
use Rattle.rule.specs.declared.record.Record.TheVariants.{True}
use Rattle.rule.specs.Components.{shifts, first_component, components, any_ahead}
use Rattle.rule.specs.Records.{Sound}
use Rattle.logic.specs.Logic.{Stream, Accepted, Begins, Sat, Tells, formula_at}
use Rattle.logic.specs.Values.{value}
use Rattle.logic.specs.Tables.{formula, rule}
use Rattle.instant.specs.Step.{lettered, shelf_after}
use Rattle.instant.specs.Answers.{step_answer}

-- the point that a step at stamp t with the letters ls takes
abbrev pub taken : {T : Type 0} → Ops T → ℕ → List T → Accepted T
taken k t ls = record { stamp = t; letters = lettered k ls }

-- a run: after a fitting with the table rs, good steps at the points ps, which stand newest first, each on the shelf that the
-- one before left. It leads to the stamp of the newest point, if any, and to a shelf
pub data Run {T : Type 0} (k : Ops T) (rs : List Record) : List (Accepted T) → Option ℕ → List T → Type 0 where
  fitted : (S : List T) → Run k rs [] None S
  further : {ps : List (Accepted T)} {p : Option ℕ} {S : List T} → Run k rs ps p S → (t : ℕ) (ls : List T)
      → step_answer (components rs) p t (length ls) (length S) ≡ Ok tt
      → Run k rs (taken k t ls ∷ ps) (Some t) (shelf_after k rs p t ls S)

-- the shelf has each record's value at the point p, which is newer than the points ps, at each of the record's shifts: the
-- value that the published logic gives it in the kind of truth, whatever stream begins with the points
abbrev pub Witnessed : {T : Type 0} → Ops T → List Record → Accepted T → List (Accepted T) → List T → Type 0
Witnessed {T} k rs p ps S = (ρ : Stream T) → Begins ρ (p ∷ ps) → (j s : ℕ) → j < length rs → s < shifts (slice_index_or rs j True) →
    slice_index_or S (first_component rs j + s) k.never ≡ value k ρ (formula_at s (formula rs j)) (length ps)

-- over every run of a rule without future operators the shelf has those values
abbrev pub RunsWitnessed : {T : Type 0} → Ops T → Type 0
RunsWitnessed {T} k = (rs : List Record) → Sound rs → any_ahead rs ≡ false →
    (p : Accepted T) (ps : List (Accepted T)) (n : Option ℕ) (S : List T) → Run k rs (p ∷ ps) n S → Witnessed k rs p ps S

-- x is the rule's value at the point p, whatever stream begins with the points
abbrev pub Judged : {T : Type 0} → Ops T → List Record → Accepted T → List (Accepted T) → T → Type 0
Judged {T} k rs p ps x = (ρ : Stream T) → Begins ρ (p ∷ ps) → x ≡ value k ρ (rule rs) (length ps)

-- b says whether the rule is true at the point p, in every stream that begins with the points
abbrev pub Says : List Record → Accepted Bool → List (Accepted Bool) → Bool → Type 0
Says rs p ps b = (ρ : Stream Bool) → Begins ρ (p ∷ ps) → Tells (Sat ρ (rule rs) (length ps)) b

-- the letters of a word
abbrev pub word_letters : ℕ → List Bool
word_letters w = map (letter_of w) (range_with_len 0 letter_count)
