-- The text of points, lines of the verdict, refused entries and counts.
use Rattle.std.specs.Prelude.{ℕ, List, ◌++◌, codes}
use Rattle.logic.specs.declared.verdict.Line.{Line}
use Rattle.logic.specs.declared.verdict.Line.TheVariants.{True, False, Joined}
use Rattle.logic.specs.declared.verdict.Point.{Point}
use Rattle.lines.specs.Decimals.{decimal}
use Rattle.lines.specs.declared.report.Counts.{Counts}

-- a label, and a number behind it
abbrev pub labelled : List ℕ → ℕ → List ℕ
labelled label n = label ++ decimal n

-- a point, as 10:0
abbrev pub point_text : Point → List ℕ
point_text p = decimal p.stamp ++ labelled (codes ":") p.offset

-- a line of the verdict, as 10:0 true or 10:1 = 10:0, with the later point first
abbrev pub line_text : Line → List ℕ
line_text (True p) = point_text p ++ codes " true"
line_text (False p) = point_text p ++ codes " false"
line_text (Joined later earlier) = point_text later ++ codes " = " ++ point_text earlier

-- an entry that is refused, as entry 4 refused 25
abbrev pub refused_text : ℕ → ℕ → List ℕ
refused_text place number = labelled (codes "entry ") place ++ labelled (codes " refused ") number

-- what was counted, as drawn 6 accepted 5 turned-away 1 held 1
abbrev pub counts_text : Counts → List ℕ
counts_text c =
    labelled (codes "drawn ") c.drawn ++ labelled (codes " accepted ") c.accepted
    ++ labelled (codes " turned-away ") c.turned_away ++ labelled (codes " held ") c.held
