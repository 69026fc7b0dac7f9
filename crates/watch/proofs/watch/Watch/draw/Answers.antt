-- The promise is kept after one draw more.
use Rattle.std.proofs.Common.{◌<◌, length, arith}
use Rattle.std.proofs.lemmas.List.{length-take-le}
use Rattle.rule.specs.Reading.{records}
use Rattle.logic.specs.Histories.{log_after, lines_after}
use Rattle.logic.proofs.Histories.{histories_kept}
use Rattle.watch.specs.States.{state}
use Rattle.watch.proofs.Promised.{reached_more}
use Rattle.watch.proofs.watch.Watch.draw.Goals as goal

pub returns : goal.returns
returns g c =
    let w = c.args.self.now in
    let rs = records w.rule in
    let st = state w in
    let es = g.F.Feed.entries c.args.feed.now in
    let tray = length c.args.tray.now in
    let st' = state c.draw_one.new.self in
    let es' = g.F.Feed.entries c.draw_one.new.feed in
    let some : 0 < length rs = omega (arith, length-take-le w.rule.len w.rule.table (omega arith)) in
    record {
      answer = c.draw_one.ensures.answer;
      state = c.draw_one.ensures.state;
      entries = c.draw_one.ensures.entries;
      height = c.draw_one.ensures.height;
      reached = λ start log lines r. reached_more rs w.slots start st st' es es' tray log lines c.draw_one.ensures.state c.draw_one.ensures.entries r;
      promise = λ start log lines r.
          histories_kept rs w.slots start w.rule.sound w.few_waits some st' es' (log_after st es tray log) (lines_after st es tray lines)
          (reached_more rs w.slots start st st' es es' tray log lines c.draw_one.ensures.state c.draw_one.ensures.entries r);
      tray = c.draw_one.ensures.tray;
    }
