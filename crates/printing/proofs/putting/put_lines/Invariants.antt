-- What the loop of `put_lines` keeps.
use Rattle.std.proofs.Common.{◌≡◌, ◌++◌, map, take, vec_items}
use Rattle.lines.specs.declared.report.Report.TheVariants as report
use Rattle.printing.specs.Reports.{printed}
use Rattle.printing.proofs.putting.put_lines.Given as goal

abbrev pub invariant-loop-line : goal.invariant-loop-line
invariant-loop-line l = vec_items l.out ≡ vec_items l.initial.out ++ printed (map report.Line (take l.line-index l.lines))
