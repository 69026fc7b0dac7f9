-- The letters that were made are those of the word.
use Rattle.std.proofs.Common.{◌≡◌, false, rules}
use Rattle.std.proofs.lemmas.List.FromFn.{fill_by_all}
use Rattle.truth.proofs.Made.{made_at}
use Rattle.feed.specs.Entries.{letter_of, letter_count}
use Rattle.feed.proofs.entry.Sample.spelled.Goals as goal

pub returns : goal.returns
returns c =
    let w = c.args.self.letters in
    fill_by_all (letter_of w) c.from_fn.result letter_count false c.from_fn.ensures.items.long
    (made_at _ (λ i y. y ≡ letter_of w i) false _ _ 12 c.from_fn.ensures.items (λ i y q m. (search rules, search rules)))
