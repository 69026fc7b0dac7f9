-- What the print of a card tells, in the words of the logic.
use Rattle.std.specs.Prelude.{◌≡◌, ℕ, cond, List, [], ◌∷◌, ◌++◌}
use Rattle.feed.specs.declared.entry.Entry.{Entry}
use Rattle.rule.specs.declared.record.Record.{Record}
use Rattle.rule.specs.Limits.{most_slots}
use Rattle.logic.specs.declared.verdict.Line.{Line}
use Rattle.logic.specs.States.{State}
use Rattle.logic.specs.Histories.{KeptPromise, Logged, Reached}
use Rattle.lines.specs.declared.report.Report.{Report}
use Rattle.lines.specs.declared.report.Report.TheVariants as report
use Rattle.printing.specs.Reports.{ending}

-- the lines among some reports, in order
abbrev pub lines_in : List Report → List Line
lines_in [] = []
lines_in (report.Line l ∷ rs) = l ∷ lines_in rs
lines_in (report.Held p ∷ rs) = lines_in rs
lines_in (report.Refused place number ∷ rs) = lines_in rs
lines_in (report.Spoiled place number fault ∷ rs) = lines_in rs
lines_in (report.Counts c ∷ rs) = lines_in rs
lines_in (report.RuleRefused number ∷ rs) = lines_in rs
lines_in (report.LogTooLong ∷ rs) = lines_in rs

-- the places of the refused entries among some reports, in order
abbrev pub refused_in : List Report → List ℕ
refused_in [] = []
refused_in (report.Line l ∷ rs) = refused_in rs
refused_in (report.Held p ∷ rs) = refused_in rs
refused_in (report.Refused place number ∷ rs) = place ∷ refused_in rs
refused_in (report.Spoiled place number fault ∷ rs) = place ∷ refused_in rs
refused_in (report.Counts c ∷ rs) = refused_in rs
refused_in (report.RuleRefused number ∷ rs) = refused_in rs
refused_in (report.LogTooLong ∷ rs) = refused_in rs

-- the places of the entries of a log that were turned away, in order
abbrev pub turned_places : List Logged → List ℕ
turned_places [] = []
turned_places (l ∷ ls) = cond l.accepted [] (l.entry.place ∷ []) ++ turned_places ls

-- some reports tell of the entries `start`, judged by the rule of a table
pub record Told (rs : List Record) (start : List Entry) (reports : List Report) : Type 0 where
  -- draws alone led from a fresh fitting over the entries to their end, and the promise over every history is kept there
  pub end : State
  pub log : List Logged
  pub lines : List Line
  pub reached : Reached rs most_slots start end [] log lines
  pub kept : KeptPromise rs most_slots start end [] log lines
  -- what the draws brought stands first; then the held points and the counts
  pub brought : List Report
  pub whole : reports ≡ brought ++ ending end
  -- it has all lines of the draws and no other, and names every entry that was turned away and no other, each in order
  pub verdicts : lines_in brought ≡ lines
  pub refusals : refused_in brought ≡ turned_places log
