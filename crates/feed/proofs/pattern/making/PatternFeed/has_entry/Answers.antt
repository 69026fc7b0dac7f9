-- An entry is left where fewer are drawn than there are.
use Rattle.feed.proofs.Running.{pattern_some}
use Rattle.feed.proofs.pattern.making.PatternFeed.has_entry.Goals as goal

pub returns : goal.returns
returns c =
    let p = c.args.self.now in
    pattern_some p.first p.per p.words p.used p.next p.count
