-- What is left to prove of `put_draw`.
use Rattle.std.proofs.Common.{◌≡◌, ◌++◌, map, length, Ok, vec_items, sym, ap, ◌∙◌, arith}
use Rattle.logic.specs.Draws.{draw_answer, draw_lines}
use Rattle.logic.proofs.Histories.{lines_counted, tray_enough}
use Rattle.lines.specs.declared.report.Report.TheVariants as report
use Rattle.watch.specs.States.{state}
use Rattle.printing.specs.Reports.{draw_reports, has_drawn, printed}
use Rattle.printing.proofs.Prints.{front_is}
use Rattle.printing.proofs.putting.put_draw.Goals as goal

pub slice_bounds-put_lines-end : goal.slice_bounds-put_lines-end
slice_bounds-put_lines-end g c =
    let st = state c.args.watch.now in
    let es = g.F.Feed.entries c.args.feed.now in
    let tray = length c.args.tray.now in
    let told : draw_answer st es tray ≡ Ok c.in-Ok.n = sym c.in-Ok.ensures.answer in
    let count = lines_counted st es tray c.in-Ok.n told in
    let room = tray_enough st es tray in
    let long = c.draw.auto in
    omega arith

pub returns-in_ok-put_lines-in-Ok : goal.returns-in_ok-put_lines-in-Ok
returns-in_ok-put_lines-in-Ok g c =
    let st = state c.args.watch.now in
    let es = g.F.Feed.entries c.args.feed.now in
    let tray = length c.args.tray.now in
    let n = c.in-Ok.n in
    let lines = draw_lines st es tray in
    let old = vec_items c.args.out.now in
    let d = c.in-Ok.ensures in
    let told : draw_answer st es tray ≡ Ok n = sym d.answer in
    record {
      answer = ap has_drawn d.answer;
      text = c.in_ok-put_lines-in-Ok.ensures
          ∙ ap (λ z. old ++ printed (map report.Line z)) (front_is lines c.args.tray.now c.draw.new.tray n d.tray (lines_counted st es tray n told))
          ∙ ap (λ a. old ++ printed (draw_reports a lines)) d.answer;
      state = d.state;
      entries = d.entries;
      height = d.height;
      tray = d.tray;
    }
