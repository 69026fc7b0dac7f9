-- Drawing a whole record gives the first entry and leaves the others.
use Rattle.std.proofs.Common.{◌+◌, ◌≤◌, length, sym, refl, ap, ◌∙◌, rules}
use Rattle.std.proofs.lemmas.List.{take_rest}
use Rattle.feed.specs.Lists.{first, others}
use Rattle.feed.specs.Records.{entries_from}
use Rattle.feed.proofs.Reading.{read_more}
use Rattle.feed.proofs.record_feed.reading.RecordFeedFeed.draw.Goals as goal

pub returns-in-len6-up : goal.returns-in-len6-up
returns-in-len6-up c =
    let s = c.args.self.now in
    let xs = s.rest.now in
    let long : 6 ≤ length xs = search rules in
    let e = read_more s.place xs long in
    record {
      gives = simp c.record_content-content.ensures (sym (ap first e));
      leaves = ap (entries_from (s.place + 1)) (take_rest xs 6) ∙ sym (ap others e);
      keeps = refl;
    }
