-- The renewed waits of the record lie behind those of earlier records.
use Rattle.std.proofs.Common.{◌≡◌, ◌+◌, map, ap, ◌∙◌, arith}
use Rattle.std.specs.List.{range_with_len}
use Rattle.std.proofs.lemmas.List.{length-take-le}
use Rattle.std.proofs.lemmas.List.FromFn.{length-map-range_with_len}
use Rattle.truth.specs.Tables.{openly}
use Rattle.rule.specs.Reading.{records}
use Rattle.rule.specs.Components.{first_component, first_wait, own_waits}
use Rattle.rule.proofs.Counts.{numbers_room}
use Rattle.logic.specs.Draws.{among}
use Rattle.logic.specs.Steps.{renewed}
use Rattle.logic.specs.Tables.{row}
use Rattle.watch.proofs.Filling.{row_split}
use Rattle.watch.proofs.fill.Filling.renew_row.Goals as goal

pub returns : goal.returns
returns c =
    let s = c.args.self.now in
    let rs = records s.rule.now in
    let j = c.args.j in
    let W = c.args.becomes.now in
    let f = renewed openly (row rs j) s.arrival.now.gap (λ a n. among c.args.values.now (first_component rs a + n)) j in
    let room = numbers_room own_waits rs j c.requires.within in
    let enough = c.requires.room in
    let at = c.first_wait.ensures.value in
    let wide : c.from-waits.result ≡ own_waits (row rs j) = c.from-waits.ensures ∙ c.own_waits.ensures.value ∙ ap own_waits c.record.ensures in
    let short = c.split_at_mut-rest.ensures.back_len in
    row_split W _ _ _ (map f (range_with_len 0 (own_waits (row rs j)))) (first_wait rs j) c.first_wait.result c.from-waits.result (omega arith) at
    c.split_at_mut-rest.ensures.front c.split_at_mut-rest.ensures.back
    (c.renew_shifts.ensures ∙ ap (λ n. map f (range_with_len 0 n)) (length-take-le _ _ (omega arith) ∙ wide))
    (length-map-range_with_len f 0 (own_waits (row rs j)) ∙ omega arith)
