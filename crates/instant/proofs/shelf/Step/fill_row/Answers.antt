-- The row lies behind those of earlier records.
use Rattle.std.proofs.Common.{◌≡◌, ◌++◌, map, length, get_or, take, drop, sym, ap, ◌∙◌, ap₂, arith}
use Rattle.std.specs.List.{range_with_len}
use Rattle.std.proofs.lemmas.List.{length-take-le}
use Rattle.rule.specs.declared.record.Record.TheVariants.{True}
use Rattle.rule.specs.Reading.{records}
use Rattle.rule.specs.Components.{first_component, shifts}
use Rattle.rule.proofs.Numbering.{first_room}
use Rattle.instant.specs.Step.{valued, row}
use Rattle.instant.proofs.Values.{length_row}
use Rattle.feed.proofs.Onto.{onto_split}
use Rattle.instant.proofs.shelf.Step.fill_row.Goals as goal

pub returns : goal.returns
returns g c =
    let k = g.T.Truth.ops in
    let s = c.args.self.now in
    let rs = records s.rule.now in
    let bs = s.before.now in
    let V = c.args.values.now in
    let r = get_or rs c.args.j True in
    let F = first_component rs c.args.j in
    let A = take F V in
    let room = first_room rs c.args.j c.requires.within in
    let enough = c.requires.room in
    let at = c.first_component.ensures.value in
    let wide : c.from-shifts.result ≡ shifts r = c.from-shifts.ensures ∙ c.shifts.ensures.value ∙ ap shifts c.record.ensures in
    let long : length A ≡ F = length-take-le F V (omega arith) in
    let front = c.split_at_mut-earlier.ensures.front ∙ ap (λ i. take i V) at in
    let back = c.split_at_mut-earlier.ensures.back ∙ ap (λ i. drop i V) at in
    let short = c.split_at_mut-earlier.ensures.back_len in
    let own =
    c.fill_shifts.ensures
    ∙ ap₂ (λ vs n. map (λ x. valued k rs s.letters.now s.gap vs bs r F x) (range_with_len 0 n)) front (length-take-le _ _ (omega arith) ∙ wide)
    ∙ ap (λ n. map (λ x. valued k rs s.letters.now s.gap A bs r n x) (range_with_len 0 (shifts r))) (sym long) in
    ap₂ (λ X Y. X ++ Y) front (ap₂ (λ R D. R ++ D) own (ap₂ (λ n D. drop n D) wide back))
    ∙ onto_split A (row k rs s.letters.now s.gap A bs r) V F (shifts r) long (length_row k rs s.letters.now s.gap bs A r)
