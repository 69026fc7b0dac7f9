-- The letters as conditions are always or never, as the sample has them.
use Rattle.std.proofs.Common.{◌≡◌, false, cond, get_or, ap, ◌∙◌, arith, rules}
use Rattle.std.proofs.lemmas.List.FromFn.{fill_by_all, get_or-map-range_with_len}
use Rattle.truth.specs.Tables.{openly}
use Rattle.feed.specs.Entries.{letter_count, letter_of}
use Rattle.logic.specs.Draws.{lettered}
use Rattle.watch.proofs.arrival.Arrival.new.Goals as goal

pub invariant_of-result : goal.invariant_of-result
invariant_of-result c =
    let w = c.args.sample.letters in
    record {
      spelled = fill_by_all (lettered w) c.map.result letter_count openly.never c.map.ensures.items.long (λ k l.
          let said = c.map.ensures.items.at k false openly.never l in
          let is : get_or c.map.result k openly.never ≡ cond (get_or c.spelled.result k false) openly.always openly.never = search (rules, said) in
          is
          ∙ ap (λ b. cond b openly.always openly.never)
          (ap (λ xs. get_or xs k false) c.spelled.ensures ∙ get_or-map-range_with_len (letter_of w) 0 letter_count k k false (omega arith) (omega arith)));
    }
