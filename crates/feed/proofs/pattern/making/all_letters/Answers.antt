-- Both the test of each word and the recursion over the words tell whether each has only letters.
use Rattle.std.proofs.Common.{◌<◌, Decides, All, rules}
use Rattle.std.specs.Bool.{one_answer}
use Rattle.feed.specs.Entries.{letter_limit}
use Rattle.feed.proofs.Standing.{letters_decide}
use Rattle.feed.proofs.pattern.making.all_letters.Goals as goal

pub returns : goal.returns
returns c =
    let each : Decides c.all.result (All (λ w. w < letter_limit) c.args.words.now) = search rules in
    one_answer _ _ each (letters_decide c.args.words.now)
