-- What is printed: for a draw, for what a watch holds and has counted, and for a whole card.
use Rattle.std.specs.Prelude.{ℕ, ◌+◌, ◌*◌, Bool, true, cond, List, [], ◌∷◌, ◌++◌, map, length, is_some, Some, None, Ok, Err, Option, Result, nat_le}
use Rattle.feed.specs.declared.entry.Entry.{Entry}
use Rattle.feed.specs.Records.{entries_of}
use Rattle.rule.specs.Limits.{most_slots}
use Rattle.rule.specs.Reading.{Read}
use Rattle.rule.specs.Refusals.{refusal_number}
use Rattle.logic.specs.declared.refusal.DrawRefusal.{DrawRefusal}
use Rattle.logic.specs.declared.refusal.DrawRefusal.TheVariants as refusal
use Rattle.logic.specs.declared.verdict.HeldPoint.{HeldPoint}
use Rattle.logic.specs.declared.verdict.Line.{Line}
use Rattle.logic.specs.Refusals.{draw_number}
use Rattle.logic.specs.States.{State, fitted}
use Rattle.logic.specs.Draws.{draw_answer, draw_lines, draw_state}
use Rattle.lines.specs.Reports.{line_bytes}
use Rattle.lines.specs.declared.report.Report.{Report}
use Rattle.lines.specs.declared.report.Report.TheVariants as report

-- the bytes of some reports, one line each
abbrev pub printed : List Report → List ℕ
printed [] = []
printed (r ∷ rs) = line_bytes r ++ printed rs

-- a list of what may be there
abbrev pub optional : {A : Type 0} → Option A → List A
optional None = []
optional (Some x) = x ∷ []

-- the report of an entry that was drawn and turned away; a refusal that has drawn no entry has none
abbrev pub refusal_report : DrawRefusal → Option Report
refusal_report refusal.Counted = None
refusal_report refusal.Tray = None
refusal_report refusal.Ended = None
refusal_report (refusal.Spoiled place fault) = Some (report.Spoiled place (draw_number (refusal.Spoiled place fault)) fault)
refusal_report (refusal.Stamp place) = Some (report.Refused place (draw_number (refusal.Stamp place)))
refusal_report (refusal.Crowded place) = Some (report.Refused place (draw_number (refusal.Crowded place)))
refusal_report (refusal.Slots place) = Some (report.Refused place (draw_number (refusal.Slots place)))

-- the reports of a draw: its lines, or the entry that was turned away
abbrev pub draw_reports : Result ℕ DrawRefusal → List Line → List Report
draw_reports (Ok n) lines = map report.Line lines
draw_reports (Err why) lines = optional (refusal_report why)

-- whether a draw has drawn an entry
abbrev pub has_drawn : Result ℕ DrawRefusal → Bool
has_drawn (Ok n) = true
has_drawn (Err why) = is_some (refusal_report why)

-- the reports of held points, earliest first
abbrev pub held_reports : List HeldPoint → List Report
held_reports held = map (λ h. report.Held h.point) held

-- the report of what was counted
abbrev pub counts_report : State → Report
counts_report st = report.Counts (record { drawn = st.drawn; accepted = st.accepted; turned_away = st.turned; held = length st.held })

-- what is printed behind the last entry: the held points, and then the counts
abbrev pub ending : State → List Report
ending st = held_reports st.held ++ (counts_report st ∷ [])

-- a tray of so many lines has room for those of any draw: for all held points and the new one
abbrev pub tray_lines : ℕ
tray_lines = most_slots + 1

-- the reports of each entry still to come, drawn from a state, and then the ending
abbrev pub card_reports : State → List Entry → List Report
card_reports st [] = ending st
card_reports st (e ∷ es) =
    draw_reports (draw_answer st (e ∷ es) tray_lines) (draw_lines st (e ∷ es) tray_lines) ++ card_reports (draw_state st (e ∷ es) tray_lines) es

-- a card has no more records, of six bytes each
abbrev pub most_card_bytes : ℕ
most_card_bytes = 10000 * 6

-- the reports of a card of some bytes, by what was read of the rule: the refused rule alone, else a card that is too long alone
abbrev pub all_reports : Read → List ℕ → List Report
all_reports (Err e) card = report.RuleRefused (refusal_number e) ∷ []
all_reports (Ok rs) card = cond (nat_le (length card) most_card_bytes) (card_reports (fitted rs most_slots) (entries_of card)) (report.LogTooLong ∷ [])
