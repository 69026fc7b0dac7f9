-- The numbers of the questions that a draw is asked.
use Rattle.std.specs.Prelude.{ℕ}
use Rattle.logic.specs.declared.refusal.DrawRefusal.{DrawRefusal}
use Rattle.logic.specs.declared.refusal.DrawRefusal.TheVariants.{Counted, Tray, Ended, Spoiled, Stamp, Crowded, Slots}

-- the number of the question that was answered no
abbrev pub draw_number : DrawRefusal → ℕ
draw_number Counted = 21
draw_number Tray = 22
draw_number Ended = 23
draw_number (Spoiled place fault) = 24
draw_number (Stamp place) = 25
draw_number (Crowded place) = 26
draw_number (Slots place) = 27
