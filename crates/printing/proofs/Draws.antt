-- What a draw brings when an entry is left and can be drawn.
use Rattle.std.proofs.Common.{◌≡◌, ℕ, ◌+◌, ◌<◌, cond, ltb, List, [], ◌∷◌, map, length, Err, sym, refl, ap, ◌∙◌, subst}
use Rattle.std.proofs.lemmas.Bool.{cond-true, lt-ltb}
use Rattle.feed.specs.declared.entry.Entry.{Entry}
use Rattle.logic.specs.declared.verdict.Line.{Line}
use Rattle.logic.specs.declared.refusal.DrawRefusal.{DrawRefusal}
use Rattle.logic.specs.declared.refusal.DrawRefusal.TheVariants.{Counted, Tray, Spoiled, Stamp, Crowded, Slots}
use Rattle.logic.specs.States.{State}
use Rattle.logic.specs.Draws.{Drawn, draw, drawn_content, drawn_entry, filled_at, most_drawn, treatment, turned_away, unaltered}
use Rattle.logic.specs.Histories.{logged}
use Rattle.logic.proofs.Cases.{content_by}
use Rattle.lines.specs.declared.report.Report.TheVariants as report
use Rattle.printing.specs.Reports.{draw_reports}
use Rattle.printing.specs.Told.{lines_in, refused_in, turned_places}

-- lists of lines, as reports
pub lines_in_lines : (ls : List Line) → lines_in (map report.Line ls) ≡ ls
lines_in_lines [] = refl
lines_in_lines (l ∷ ls) = ap (λ x. l ∷ x) (lines_in_lines ls)

refused_in_lines : (ls : List Line) → refused_in (map report.Line ls) ≡ []
refused_in_lines [] = refl
refused_in_lines (l ∷ ls) = refused_in_lines ls

-- what a draw that has drawn the entry e, before es, answers, leaves and brings
pub record Took (st : State) (e : Entry) (es : List Entry) (d : Drawn) : Type 0 where
  pub rest : d.rest ≡ es
  pub counted : d.state.drawn ≡ st.drawn + 1
  pub verdicts : lines_in (draw_reports d.answer d.lines) ≡ d.lines
  pub refusals : refused_in (draw_reports d.answer d.lines) ≡ turned_places (logged d.answer (e ∷ es))

module _ (st : State) (e : Entry) (es : List Entry) where
  turned_took : (why : DrawRefusal) → lines_in (draw_reports (Err why) []) ≡ [] → refused_in (draw_reports (Err why) []) ≡ turned_places (logged (Err why) (e ∷ es)) → Took st e es (turned_away st es why)
  turned_took why a b = record { rest = refl; counted = refl; verdicts = a; refusals = b }

  content_took : Took st e es (drawn_content st es e.place e.content)
  content_took =
      content_by (Took st e es) st es e.place e.content (λ f. turned_took (Spoiled e.place f) refl refl) (turned_took (Stamp e.place) refl refl)
      (turned_took (Crowded e.place) refl refl) (λ s z. turned_took (Slots e.place) refl refl)
      (λ s q n y. let lines = (treatment st s (filled_at st s)).lines in record { rest = refl; counted = refl; verdicts = lines_in_lines lines; refusals = refused_in_lines lines })

  -- an entry is drawn where the count and the tray allow it
  pub draw_took : (tray : ℕ) → st.drawn < most_drawn → length st.held < tray → Took st e es (draw st (e ∷ es) tray)
  draw_took tray few room =
      let inner = cond (ltb (length st.held) tray) (drawn_entry st (e ∷ es)) (unaltered st (e ∷ es) Tray) in
      let a : draw st (e ∷ es) tray ≡ inner = cond-true (ltb st.drawn most_drawn) inner (unaltered st (e ∷ es) Counted) (lt-ltb st.drawn most_drawn few) in
      let b : inner ≡ drawn_entry st (e ∷ es) = cond-true (ltb (length st.held) tray) (drawn_entry st (e ∷ es)) (unaltered st (e ∷ es) Tray) (lt-ltb (length st.held) tray room) in
      subst (Took st e es) (sym (a ∙ b)) content_took
