-- A first point has never everywhere behind the newest values.
use Rattle.std.proofs.Common.{◌∙◌, length, sym, ap, arith}
use Rattle.std.proofs.lemmas.List.{ext_get_or, length-replicate, get_or-replicate}
use Rattle.instant.specs.Step.{kept}
use Rattle.instant.proofs.shelf.keep.Goals as goal

pub returns-after-loop-value : goal.returns-after-loop-value
returns-after-loop-value g c =
    let k = g.T.Truth.ops in
    let vs = c.args.values.now in
    let n = length vs in
    let long = length-replicate n k.never in
    ext_get_or k.never _ _ (omega arith) (λ i l. c.loop-value.invariant i (omega arith) ∙ sym (get_or-replicate n i k.never k.never (omega arith)))
    ∙ sym (ap (λ b. kept k b n vs) c.if-first.true)
