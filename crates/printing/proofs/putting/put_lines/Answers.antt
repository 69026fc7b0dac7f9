-- What is left to prove of `put_lines`.
use Rattle.std.proofs.Common.{◌++◌, map, vec_items, ap, ◌∙◌, arith}
use Rattle.std.proofs.lemmas.List.{take_all}
use Rattle.lines.specs.declared.report.Report.TheVariants as report
use Rattle.printing.specs.Reports.{printed}
use Rattle.printing.proofs.Prints.{lines_more}
use Rattle.printing.proofs.putting.put_lines.Goals as goal

pub loop-line-preserved : goal.loop-line-preserved
loop-line-preserved c =
    lines_more c.args.lines.now c.loop-line.line-index _ (omega arith) (vec_items c.loop-line.out) (vec_items c.put_report.new.out) (vec_items c.args.out.now)
    c.loop-line.invariant c.in_ok-put_report.ensures

pub returns : goal.returns
returns c =
    c.loop-line.invariant ∙ ap (λ x. vec_items c.args.out.now ++ printed (map report.Line x)) (take_all c.loop-line.line-index c.args.lines.now (omega arith))
