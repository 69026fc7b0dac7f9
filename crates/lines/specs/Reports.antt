-- The bytes of every line that the program can print.
use Rattle.std.specs.Prelude.{ℕ, List, [], ◌∷◌, ◌++◌, codes}
use Rattle.feed.specs.Entries.{cause_number}
use Rattle.lines.specs.Lines.{labelled, point_text, line_text, refused_text, counts_text}
use Rattle.lines.specs.declared.report.Report.{Report}
use Rattle.lines.specs.declared.report.Report.TheVariants.{Line, Held, Refused, Spoiled, Counts, RuleRefused, LogTooLong}

-- the text of a report
abbrev pub report_text : Report → List ℕ
report_text (Line l) = line_text l
report_text (Held p) = point_text p ++ codes " held"
report_text (Refused place number) = refused_text place number
report_text (Spoiled place number fault) =
    refused_text place number ++ labelled (codes " cause ") (cause_number fault.cause) ++ labelled (codes " layer ") fault.height
report_text (Counts c) = counts_text c
report_text (RuleRefused number) = labelled (codes "rule refused ") number
report_text LogTooLong = codes "log too long"

-- the line of a report: its text and a byte 10
abbrev pub line_bytes : Report → List ℕ
line_bytes r = report_text r ++ (10 ∷ [])
