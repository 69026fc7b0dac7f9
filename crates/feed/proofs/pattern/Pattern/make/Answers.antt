-- A making that no question refuses gives the whole new list.
use Rattle.std.proofs.Common.{◌≡◌, Ok, ap, ◌∙◌, arith, rules}
use Rattle.feed.specs.Patterns.{pattern_answer, pattern_entries, pattern_left, taken}
use Rattle.feed.proofs.Running.{pattern_made}
use Rattle.feed.proofs.pattern.Pattern.make.Goals as goal

pub returns : goal.returns
returns c =
    let s = c.args.first in
    let r = c.args.per in
    let ws = c.args.words.now in
    let n = c.args.count in
    let good : Ok tt ≡ pattern_answer s r ws n = search rules in
    let old = pattern_left c.args.self.now in
    record {
      answer = good;
      left = pattern_made s r c.copy_from_slice.new.self ws _ n c.copy_from_slice.ensures.after (omega arith) ∙ ap (λ a. taken a (pattern_entries s r ws n) old) good;
      kept = tt;
    }
