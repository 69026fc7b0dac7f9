-- A stamp is at most the last one, and drawing leaves the entries after the first.
use Rattle.std.proofs.Common.{◌-◌, ◌/◌, ◌≤◌, sym, refl, ap, arith, rules}
use Rattle.feed.specs.Lists.{first, others}
use Rattle.feed.proofs.Running.{pattern_more, div_grows}
use Rattle.feed.proofs.pattern.making.PatternFeed.draw.Goals as goal

pub overflow_add-sample : goal.overflow_add-sample
overflow_add-sample c =
    let p = c.args.self.now in
    let h : p.next / p.per ≤ (p.count - 1) / p.per = div_grows p.next (p.count - 1) p.per p.steps (omega arith) in
    let k = p.last (omega arith) in
    search rules

pub returns : goal.returns
returns c =
    let p = c.args.self.now in
    let e = pattern_more p.first p.per p.words p.used p.next p.count (omega arith) in
    record { gives = sym (ap first e); leaves = sym (ap others e); keeps = refl }
