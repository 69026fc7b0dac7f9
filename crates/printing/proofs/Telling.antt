-- The print of a card tells of its entries.
use Rattle.std.proofs.Common.{◌≡◌, ℕ, ◌+◌, ◌≤◌, cond, leb, List, [], ◌∷◌, ◌++◌, length, Ok, sym, refl, ap, ◌∙◌, subst, ap₂, arith}
use Rattle.std.proofs.lemmas.List.{append_assoc}
use Rattle.std.proofs.lemmas.Bool.{cond-true, le-leb}
use Rattle.feed.specs.declared.entry.Entry.{Entry}
use Rattle.feed.specs.Records.{entries_of}
use Rattle.feed.proofs.Reading.{counted_entries}
use Rattle.rule.specs.declared.record.Record.{Record}
use Rattle.rule.specs.Limits.{most_slots}
use Rattle.rule.specs.Reading.{Fitting, Read}
use Rattle.logic.specs.declared.verdict.Line.{Line}
use Rattle.logic.specs.States.{State, fitted}
use Rattle.logic.specs.Draws.{draw}
use Rattle.logic.specs.Histories.{KeptPromise, Logged, Reached, drawing, lines_after, log_after, logged, newly}
use Rattle.logic.proofs.Histories.{histories_kept}
use Rattle.lines.specs.declared.report.Report.{Report}
use Rattle.lines.specs.declared.report.Report.TheVariants as report
use Rattle.printing.specs.Reports.{all_reports, card_reports, draw_reports, most_card_bytes, tray_lines}
use Rattle.printing.specs.Told.{Told, lines_in, refused_in, turned_places}
use Rattle.printing.proofs.Draws.{draw_took}

lines_in_append : (xs ys : List Report) → lines_in (xs ++ ys) ≡ lines_in xs ++ lines_in ys
lines_in_append [] ys = refl
lines_in_append (report.Line l ∷ xs) ys = ap (λ z. l ∷ z) (lines_in_append xs ys)
lines_in_append (report.Held p ∷ xs) ys = lines_in_append xs ys
lines_in_append (report.Refused place number ∷ xs) ys = lines_in_append xs ys
lines_in_append (report.Spoiled place number fault ∷ xs) ys = lines_in_append xs ys
lines_in_append (report.Counts c ∷ xs) ys = lines_in_append xs ys
lines_in_append (report.RuleRefused number ∷ xs) ys = lines_in_append xs ys
lines_in_append (report.LogTooLong ∷ xs) ys = lines_in_append xs ys

refused_in_append : (xs ys : List Report) → refused_in (xs ++ ys) ≡ refused_in xs ++ refused_in ys
refused_in_append [] ys = refl
refused_in_append (report.Line l ∷ xs) ys = refused_in_append xs ys
refused_in_append (report.Held p ∷ xs) ys = refused_in_append xs ys
refused_in_append (report.Refused place number ∷ xs) ys = ap (λ z. place ∷ z) (refused_in_append xs ys)
refused_in_append (report.Spoiled place number fault ∷ xs) ys = ap (λ z. place ∷ z) (refused_in_append xs ys)
refused_in_append (report.Counts c ∷ xs) ys = refused_in_append xs ys
refused_in_append (report.RuleRefused number ∷ xs) ys = refused_in_append xs ys
refused_in_append (report.LogTooLong ∷ xs) ys = refused_in_append xs ys

turned_places_append : (xs ys : List Logged) → turned_places (xs ++ ys) ≡ turned_places xs ++ turned_places ys
turned_places_append [] ys = refl
turned_places_append (l ∷ xs) ys =
    let here = cond l.accepted [] (l.entry.place ∷ []) in
    ap (λ z. here ++ z) (turned_places_append xs ys) ∙ sym (append_assoc here (turned_places xs) (turned_places ys))

module _ (rs : List Record) (start : List Entry) (fit : Fitting rs) where
  kept_at : (st : State) (rest : List Entry) (log : List Logged) (lines : List Line) → Reached rs most_slots start st rest log lines → KeptPromise rs most_slots start st rest log lines
  kept_at st rest log lines r = histories_kept rs most_slots start fit.sound fit.few fit.some st rest log lines r

  -- what the entries still to come bring, behind what was brought before
  told_on : (rest : List Entry) (st : State) (log : List Logged) (lines : List Line) → Reached rs most_slots start st rest log lines → st.drawn + length rest ≤ 10000
      → (before : List Report) → lines_in before ≡ lines → refused_in before ≡ turned_places log → Told rs start (before ++ card_reports st rest)
  told_on [] st log lines r n before a b =
      record { end = st; log = log; lines = lines; reached = r; kept = kept_at st [] log lines r; brought = before; whole = refl; verdicts = a; refusals = b }
  told_on (e ∷ es) st log lines r n before a b =
      let d = draw st (e ∷ es) tray_lines in
      let within = (kept_at st (e ∷ es) log lines r).within in
      let took = draw_took st e es tray_lines (omega arith) (omega arith) in
      let more = draw_reports d.answer d.lines in
      let log' = log_after st (e ∷ es) tray_lines log in
      let lines' = lines_after st (e ∷ es) tray_lines lines in
      let r' : Reached rs most_slots start d.state es log' lines' = subst (λ x. Reached rs most_slots start d.state x log' lines') took.rest (drawing r tray_lines) in
      let count = took.counted in
      let on = told_on es d.state log' lines' r' (omega arith) (before ++ more)
      (lines_in_append before more ∙ ap₂ ◌++◌ a took.verdicts)
      (refused_in_append before more ∙ ap₂ ◌++◌ b took.refusals ∙ sym (turned_places_append log (logged d.answer (e ∷ es)))) in
      subst (Told rs start) (append_assoc before more (card_reports d.state es)) on

-- a card that is not too long has few entries
pub card_few : (bytes : List ℕ) → length bytes ≤ most_card_bytes → length (entries_of bytes) ≤ 10000
card_few bytes h = let few = counted_entries 0 bytes in omega arith

-- the print of a card that is not too long
pub all_told : (x : Read) (card : List ℕ) (rs : List Record) → Fitting rs → x ≡ Ok rs → length card ≤ most_card_bytes → Told rs (entries_of card) (all_reports x card)
all_told x card rs fit e h =
    let whole = card_reports (fitted rs most_slots) (entries_of card) in
    let same : all_reports x card ≡ whole =
    ap (λ (y : Read). all_reports y card) e ∙ cond-true (leb (length card) most_card_bytes) whole (report.LogTooLong ∷ []) (le-leb (length card) most_card_bytes h) in
    let few = card_few card h in
    subst (Told rs (entries_of card)) (sym same) (told_on rs (entries_of card) fit (entries_of card) (fitted rs most_slots) [] [] newly (omega arith) [] refl refl)
