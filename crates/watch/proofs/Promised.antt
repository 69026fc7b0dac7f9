-- One draw more of a history.
use Rattle.std.proofs.Common.{◌≡◌, ℕ, List, sym, subst}
use Rattle.feed.specs.declared.entry.Entry.{Entry}
use Rattle.rule.specs.declared.record.Record.{Record}
use Rattle.logic.specs.declared.verdict.Line.{Line}
use Rattle.logic.specs.States.{State}
use Rattle.logic.specs.Draws.{draw_rest, draw_state}
use Rattle.logic.specs.Histories.{Logged, Reached, drawing, log_after, lines_after}

pub reached_more : (rs : List Record) (slots : ℕ) (start : List Entry) (st st' : State) (es es' : List Entry) (tray : ℕ) (log : List Logged) (lines : List Line)
    → st' ≡ draw_state st es tray → es' ≡ draw_rest st es tray → Reached rs slots start st es log lines
    → Reached rs slots start st' es' (log_after st es tray log) (lines_after st es tray lines)
reached_more rs slots start st st' es es' tray log lines e f r =
    subst (λ x. Reached rs slots start x es' (log_after st es tray log) (lines_after st es tray lines)) (sym e)
    (subst (λ x. Reached rs slots start (draw_state st es tray) x (log_after st es tray log) (lines_after st es tray lines)) (sym f) (drawing r tray))
