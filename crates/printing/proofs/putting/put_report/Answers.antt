-- What is left to prove of `put_report`.
use Rattle.std.proofs.Common.{cond, ◌++◌, is_ok, vec_items, ap, ◌∙◌}
use Rattle.lines.specs.Reports.{line_bytes}
use Rattle.printing.proofs.Prints.{front_is, put_cases}
use Rattle.printing.proofs.putting.put_report.Goals as goal

pub returns : goal.returns
returns c =
    let old = vec_items c.args.out.now in
    let line = line_bytes c.args.report in
    let r = c.extend_from_slice.result in
    put_cases r (vec_items c.extend_from_slice.new.self) (old ++ line) old
    (c.extend_from_slice.ensures.items
    ∙ ap (λ z. cond (is_ok r) (old ++ z) old) (front_is line _ c.write_report-len.new.tray c.write_report-len.result c.write_report-len.ensures.tray c.write_report-len.ensures.answer))
