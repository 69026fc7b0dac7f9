-- Histories of a watch: any draws from a newly fitted one, and what holds of the state, the entries and the lines after each.
use Rattle.std.specs.Prelude.{◌≡◌, ℕ, suc, ◌+◌, ◌-◌, ◌*◌, ◌^◌, ◌<◌, ◌≤◌, Bool, true, false, cond, not, ◌⊎◌, List, [], ◌∷◌, ◌++◌, map, reverse, length, Some, None, Ok, Err, count_by, Option, Result, nat_eq, nat_lt}
use Rattle.std.specs.List.{ContainsAt as Has, AllByRecursion}
use Rattle.truth.specs.declared.table.Condition.{Condition}
use Rattle.feed.specs.declared.entry.Entry.{Entry}
use Rattle.feed.specs.declared.entry.Sample.{Sample}
use Rattle.feed.specs.Entries.{Content}
use Rattle.feed.specs.Entries.{letter_of}
use Rattle.rule.specs.declared.record.Record.{Record}
use Rattle.rule.specs.Components.{shifts, first_component, waits}
use Rattle.rule.specs.Limits.{most_waits}
use Rattle.rule.specs.Records.{Sound}
use Rattle.logic.specs.declared.verdict.Point.{Point}
use Rattle.logic.specs.declared.verdict.HeldPoint.{HeldPoint}
use Rattle.logic.specs.declared.verdict.Line.{Line}
use Rattle.logic.specs.declared.verdict.Line.TheVariants.{True, False, Joined}
use Rattle.logic.specs.declared.refusal.DrawRefusal.{DrawRefusal}
use Rattle.logic.specs.declared.refusal.DrawRefusal.TheVariants.{Counted, Tray, Ended, Spoiled, Stamp, Crowded, Slots}
use Rattle.logic.specs.Logic.{Stream, Sat, Not, Accepted, Begins}
use Rattle.logic.specs.Tables.{row, rule}
use Rattle.logic.specs.Waits.{component, open_at}
use Rattle.logic.specs.Reach.{reach, Over, stamp_of}
use Rattle.logic.specs.Flat.{Flat, futures, longest, Undecided, Different, Pairwise}
use Rattle.logic.specs.Numbers.{Represents}
use Rattle.logic.specs.Runs.{Verdict, true_at, false_at, joined, subject, Run, Truthful, Backward}
use Rattle.logic.specs.Names.{name_of, line_of}
use Rattle.logic.specs.States.{State, fitted}
use Rattle.logic.specs.Draws.{among, draw_answer, draw_state, draw_rest, draw_lines}

-- the tables are those of all components at the newest of some points
abbrev pub HasComponents : List Record → List (Accepted Bool) → List Condition → Type 0
HasComponents rs ps vs = (j s : ℕ) → j < length rs → s < shifts (row rs j) → Represents (among vs (first_component rs j + s)) (component rs ps j s)

-- a held point has the name of point i and the table of its condition
pub record Stands (rs : List Record) (ps : List (Accepted Bool)) (h : HeldPoint) (i : ℕ) : Type 0 where
  pub named : h.point ≡ name_of ps i
  pub tabled : Represents h.condition (open_at rs ps i)

-- held points stand for points by their numbers, one by one
abbrev pub Stand : List Record → List (Accepted Bool) → List HeldPoint → List ℕ → Type 0
Stand rs ps [] [] = Unit {0}
Stand rs ps [] (i ∷ is) = ⊥
Stand rs ps (h ∷ hs) [] = ⊥
Stand rs ps (h ∷ hs) (i ∷ is) = Stands rs ps h i × Stand rs ps hs is

-- an entry that was drawn: accepted, or turned away
pub record Logged : Type 0 where
  pub entry : Entry
  pub accepted : Bool

-- what a draw that answered so adds to the log, where es were the entries to come
abbrev pub logged : Result ℕ DrawRefusal → List Entry → List Logged
logged r [] = []
logged (Ok n) (e ∷ es) = record { entry = e; accepted = true } ∷ []
logged (Err Counted) (e ∷ es) = []
logged (Err Tray) (e ∷ es) = []
logged (Err Ended) (e ∷ es) = []
logged (Err (Spoiled place fault)) (e ∷ es) = record { entry = e; accepted = false } ∷ []
logged (Err (Stamp place)) (e ∷ es) = record { entry = e; accepted = false } ∷ []
logged (Err (Crowded place)) (e ∷ es) = record { entry = e; accepted = false } ∷ []
logged (Err (Slots place)) (e ∷ es) = record { entry = e; accepted = false } ∷ []

-- the log after a draw
abbrev pub log_after : State → List Entry → ℕ → List Logged → List Logged
log_after st es tray log = log ++ logged (draw_answer st es tray) es

-- all lines after a draw
abbrev pub lines_after : State → List Entry → ℕ → List Line → List Line
lines_after st es tray lines = lines ++ draw_lines st es tray

-- what is reached from a newly fitted watch over the entries `start` by any draws, with trays of any length: the state, the entries still to
-- come, those drawn, and all lines. To read a watch out alters nothing
pub data Reached (rs : List Record) (slots : ℕ) (start : List Entry) : State → List Entry → List Logged → List Line → Type 0 where
  newly : Reached rs slots start (fitted rs slots) start [] []
  drawing : {st : State} {rest : List Entry} {log : List Logged} {lines : List Line} → Reached rs slots start st rest log lines → (tray : ℕ) →
      Reached rs slots start (draw_state st rest tray) (draw_rest st rest tray) (log_after st rest tray log) (lines_after st rest tray lines)

-- the sample of an entry, if it is one
abbrev pub sample_in : Content → List Sample
sample_in (Ok s) = s ∷ []
sample_in (Err f) = []

-- the samples of the accepted entries of a log, in order
abbrev pub accepted_samples : List Logged → List Sample
accepted_samples [] = []
accepted_samples (l ∷ ls) = cond l.accepted (sample_in l.entry.content) [] ++ accepted_samples ls

-- the point of a sample
abbrev pub point_of : Sample → Accepted Bool
point_of s = record { stamp = s.stamp; letters = letter_of s.letters }

-- the accepted points, newest first
abbrev pub points_of : List Logged → List (Accepted Bool)
points_of log = reverse (map point_of (accepted_samples log))

-- the name of the newest point, if there is one
abbrev pub newest_name : List (Accepted Bool) → Option Point
newest_name [] = None
newest_name (p ∷ ps) = Some (name_of (p ∷ ps) (length ps))

-- its stamp
abbrev pub newest_stamp : List (Accepted Bool) → ℕ
newest_stamp [] = 0
newest_stamp (p ∷ ps) = p.stamp

-- whether a line settles its point
abbrev pub settles_one : Line → Bool
settles_one (True p) = true
settles_one (False p) = true
settles_one (Joined p q) = false

-- whether a line joins two points
abbrev pub joins_two : Line → Bool
joins_two l = not (settles_one l)

-- a verdict settles point i
abbrev pub Settled : List Verdict → ℕ → Type 0
Settled vs i = Has vs (true_at i) ⊎ Has vs (false_at i)

-- joins lead from one point to another, each to an earlier one
pub data Leads (vs : List Verdict) : ℕ → ℕ → Type 0 where
  arrived : {i : ℕ} → Leads vs i i
  by_join : {i j k : ℕ} → Has vs (joined i j) → j < i → Leads vs j k → Leads vs i k

-- what a watch has kept to
pub record KeptPromise (rs : List Record) (slots : ℕ) (start : List Entry) (st : State) (rest : List Entry) (log : List Logged) (lines : List Line) : Type 0 where
  -- the verdicts so far and the numbers of the points held, by the law of runs over the accepted points
  pub verdicts : List Verdict
  pub numbers : List ℕ
  pub run : Run rs (points_of log) verdicts numbers
  -- the lines are those of the verdicts, in order
  pub said : lines ≡ map (line_of (points_of log)) verdicts
  -- the state has the rule, the slots, the newest point's name, the tables of all components there, and for each held point its name and table
  pub table : st.table ≡ rs
  pub slot_count : st.slots ≡ slots
  pub newest : st.newest ≡ newest_name (points_of log)
  pub values : HasComponents rs (points_of log) st.values
  pub held : Stand rs (points_of log) st.held numbers
  -- under every stream that begins with the accepted points, what each line says is so
  pub truthful : (ρ : Stream Bool) → Begins ρ (points_of log) → AllByRecursion (Truthful rs ρ) verdicts
  -- no entry is lost: the entries are those drawn, in order, and then those still to come
  pub nothing_lost : start ≡ map (λ l. l.entry) log ++ rest
  -- the counts are right
  pub drawn_count : st.drawn ≡ length log
  pub accepted_count : st.accepted ≡ length (points_of log)
  pub turned_count : st.turned ≡ count_by (λ l. not l.accepted) log
  pub drawn_sum : st.drawn ≡ st.accepted + st.turned
  -- each accepted point is once settled, joined or held, and no other point is
  pub once : (i : ℕ) → count_by (nat_eq i) (map subject verdicts ++ numbers) ≡ cond (nat_lt i (length (points_of log))) 1 0
  pub accepted_sum : st.accepted ≡ count_by settles_one lines + count_by joins_two lines + length st.held
  -- a point is joined to an earlier one, and joins lead from every accepted point to one that is settled or held
  pub backward : AllByRecursion Backward verdicts
  pub leads : (i : ℕ) → i < length (points_of log) → (j : ℕ) × Leads verdicts i j × (Settled verdicts j ⊎ Has numbers j)
  -- and the rule is true at both ends of the joins or at neither
  pub shared : (ρ : Stream Bool) → Begins ρ (points_of log) → (i j : ℕ) → Leads verdicts i j →
      (Sat ρ (rule rs) i → Sat ρ (rule rs) j) × (Sat ρ (rule rs) j → Sat ρ (rule rs) i)
  -- the conditions of the held points are open, and they differ, as conditions and as tables
  pub undecided : AllByRecursion (Undecided rs (points_of log)) numbers
  pub different : Pairwise (Different rs (points_of log)) numbers
  pub apart : Pairwise (λ h k. Not (h.condition ≡ k.condition)) st.held
  -- no held point is older than the newest by more than the rule's reach
  pub young : AllByRecursion (λ i. Not (Over (reach (rule rs)) (newest_stamp (points_of log) - stamp_of (points_of log) i))) numbers
  -- a flat rule holds few points, and no rule holds more than there are slots
  pub few : Flat (rule rs) → length st.held ≤ (2 ^ (2 ^ futures rs) - 2) * suc (longest rs)
  pub within : length st.held ≤ slots

-- the promise holds over every history
abbrev pub HistoriesKept : Type 0
HistoriesKept = (rs : List Record) (slots : ℕ) (start : List Entry) → Sound rs → waits rs ≤ most_waits → 0 < length rs →
    (st : State) (rest : List Entry) (log : List Logged) (lines : List Line) → Reached rs slots start st rest log lines → KeptPromise rs slots start st rest log lines

-- a tray that is long enough for a draw has room for all its lines
abbrev pub TrayEnough : Type 0
TrayEnough = (st : State) (es : List Entry) (tray : ℕ) → length (draw_lines st es tray) ≤ tray

-- a draw answers how many lines it writes
abbrev pub LinesCounted : Type 0
LinesCounted = (st : State) (es : List Entry) (tray n : ℕ) → draw_answer st es tray ≡ Ok n → n ≡ length (draw_lines st es tray)
