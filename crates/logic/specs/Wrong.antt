-- Watches that one could think of and that are wrong: what they would say, and that no promise is kept then.
use Rattle.std.specs.Prelude.{◌≡◌, ℕ, ◌<◌, true, List, [], ◌∷◌, length, Ok, Err}
use Rattle.feed.specs.declared.entry.Entry.{Entry}
use Rattle.feed.specs.declared.entry.Sample.{Sample}
use Rattle.rule.specs.declared.record.Record.{Record}
use Rattle.rule.specs.declared.record.Record.TheVariants.{Letter}
use Rattle.logic.specs.declared.refusal.DrawRefusal.TheVariants.{Ended, Slots}
use Rattle.logic.specs.declared.verdict.Line.{Line}
use Rattle.logic.specs.declared.verdict.Line.TheVariants.{True, Joined}
use Rattle.logic.specs.Logic.{Not}
use Rattle.logic.specs.States.{State, fitted}
use Rattle.logic.specs.Draws.{draw_answer, filled_at, treatment}
use Rattle.logic.specs.Examples.{at}
use Rattle.logic.specs.Histories.{KeptPromise, Logged}

-- the rule that is letter 0
abbrev pub lit : List Record
lit = Letter 0 ∷ []

-- a sample of a word at the stamp 5, at a place
abbrev pub seen : ℕ → ℕ → Entry
seen place word = record { place = place; content = Ok (record { stamp = 5; letters = word }) }

-- the entry was accepted
abbrev pub taken : Entry → Logged
taken e = record { entry = e; accepted = true }

pub record WrongWatchesFail : Type 0 where
  -- one that calls everything true says so of a sample without the letter
  pub all_true : (slots : ℕ) (start rest : List Entry) (st : State) → Not (KeptPromise lit slots start st rest (taken (seen 0 0) ∷ []) (True (at 5 0) ∷ []))
  -- one that joins everything to the first point joins a sample without the letter to one with it
  pub all_joined : (slots : ℕ) (start rest : List Entry) (st : State) →
      Not (KeptPromise lit slots start st rest (taken (seen 0 1) ∷ taken (seen 1 0) ∷ []) (True (at 5 0) ∷ Joined (at 5 1) (at 5 0) ∷ []))
  -- one that holds everything is silent about a sample
  pub all_held : (slots : ℕ) (start rest : List Entry) (st : State) → Not (KeptPromise lit slots start st rest (taken (seen 0 0) ∷ []) [])
  -- one that judges only the first sample leaves an entry out
  pub first_only : (rs : List Record) (slots : ℕ) (st : State) (l : Logged) (e : Entry) (lines : List Line) → Not (KeptPromise rs slots (l.entry ∷ e ∷ []) st [] (l ∷ []) lines)
  -- one that invents counts
  pub counts_invented : (rs : List Record) (slots : ℕ) (start rest : List Entry) (st : State) (log : List Logged) (lines : List Line) → length log < st.drawn →
      Not (KeptPromise rs slots start st rest log lines)
  -- one that refuses everything: the first sample is accepted by every rule, with any slot and any line in the tray
  pub all_refused : (rs : List Record) (slots tray : ℕ) (s : Sample) (place : ℕ) (es : List Entry) → 0 < slots → 0 < tray →
      (n : ℕ) × (draw_answer (fitted rs slots) (record { place = place; content = Ok s } ∷ es) tray ≡ Ok n)
  -- one that says ended while an entry is left
  pub ended_early : (st : State) (e : Entry) (es : List Entry) (tray : ℕ) → Not (draw_answer st (e ∷ es) tray ≡ Err Ended)
  -- one that is short of slots before it has settled and joined: the sample was drawn, and more would be held than there are slots
  pub slots_early : (st : State) (es : List Entry) (tray place : ℕ) → draw_answer st es tray ≡ Err (Slots place) →
      (s : Sample) × (st.slots < length (treatment st s (filled_at st s)).held)
