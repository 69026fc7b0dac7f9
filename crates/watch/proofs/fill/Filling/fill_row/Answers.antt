-- The conditions of the record lie behind those of earlier records.
use Rattle.std.proofs.Common.{◌≡◌, ℕ, false, map, take, set, is_some, Some, None, Option, refl, ap, ◌∙◌, ap₂, arith}
use Rattle.std.specs.List.{range_with_len}
use Rattle.std.proofs.lemmas.List.{length-take-le}
use Rattle.std.proofs.lemmas.List.FromFn.{length-map-range_with_len}
use Rattle.rule.specs.Reading.{records}
use Rattle.rule.specs.Components.{first_component, left_of, shifts}
use Rattle.rule.proofs.Numbering.{first_room}
use Rattle.logic.specs.Draws.{conditioned, lettered}
use Rattle.logic.specs.Tables.{row}
use Rattle.watch.proofs.Filling.{leaf_same, leaf_shifts, row_of_one, row_split}
use Rattle.watch.proofs.fill.Filling.fill_row.Goals as goal

no_argument : (o : Option ℕ) → is_some o ≡ false → None ≡ o
no_argument None e = refl
no_argument (Some a) e = cc

pub returns-then-is_none : goal.returns-then-is_none
returns-then-is_none c =
    let s = c.args.self.now in
    let a = s.arrival.now in
    let rs = records s.rule.now in
    let j = c.args.j in
    let V = c.args.values.now in
    let first = first_component rs j in
    let r = row rs j in
    let none : None ≡ left_of r = no_argument c.left.result c.if-is_none.ensures ∙ c.left.ensures ∙ ap left_of c.record-record.ensures in
    let room = first_room rs j c.requires.within in
    let enough = c.requires.room in
    let one = leaf_shifts r none in
    ap (λ n. set V n c.leaf.result) c.first_component-first.ensures.value
    ∙ row_of_one V first (shifts r) c.leaf.result (conditioned rs a.sample.letters a.gap s.before.now (take first V) c.args.becomes.now j) (omega arith) one
    (c.leaf.ensures ∙ leaf_same r none (lettered a.sample.letters) 0 _ _ _ _ _ _)

pub returns : goal.returns
returns c =
    let s = c.args.self.now in
    let a = s.arrival.now in
    let rs = records s.rule.now in
    let j = c.args.j in
    let V = c.args.values.now in
    let first = first_component rs j in
    let room = first_room rs j c.requires.within in
    let enough = c.requires.room in
    let at = c.first_component-first.ensures.value in
    let wide : c.from-shifts.result ≡ shifts (row rs j) = c.from-shifts.ensures ∙ c.shifts.ensures.value ∙ ap shifts c.record-record.ensures in
    let short = c.split_at_mut-earlier.ensures.back_len in
    row_split V _ _ _ (map (conditioned rs a.sample.letters a.gap s.before.now (take first V) c.args.becomes.now j) (range_with_len 0 (shifts (row rs j)))) first c.first_component-first.result c.from-shifts.result (omega arith) at
    c.split_at_mut-earlier.ensures.front c.split_at_mut-earlier.ensures.back
    (c.fill_shifts.ensures
    ∙ ap₂ (λ vs n. map (conditioned rs a.sample.letters a.gap s.before.now vs c.args.becomes.now j) (range_with_len 0 n))
    (c.split_at_mut-earlier.ensures.front ∙ ap (λ i. take i V) at) (length-take-le _ _ (omega arith) ∙ wide))
    (length-map-range_with_len _ 0 (shifts (row rs j)) ∙ omega arith)
