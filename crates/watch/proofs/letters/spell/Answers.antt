-- One letter more, which is written where it differs.
use Rattle.std.proofs.Common.{◌+◌, cond, List, sym, ap, ◌∙◌, subst, arith}
use Rattle.std.proofs.lemmas.List.{set-get_or}
use Rattle.truth.specs.declared.table.Condition.{Condition}
use Rattle.truth.specs.Tables.{openly}
use Rattle.watch.proofs.Spelling.{Spelled, spelled_none, spelled_all, spelled_more, spelled_same, same_tests}
use Rattle.watch.proofs.letters.spell.Goals as goal
use Rattle.watch.proofs.letters.spell.Goals.{then-letter-truth, else-letter-truth}

pub loop-k-init : goal.loop-k-init
loop-k-init c = spelled_none c.args.old.letters c.args.new.letters c.args.letters.now c.requires

pub loop-k-preserved : goal.loop-k-preserved
loop-k-preserved c =
    let old = c.args.old.letters in
    let new = c.args.new.letters in
    let k = c.loop-k.k in
    let P : List Condition → Type 0 = λ L. Spelled old new (k + 1) L in
    elim c.if-letter-truth.branch [
      | then-letter-truth w ↦ subst P (sym w.letters-is) (spelled_more old new k c.loop-k.letters c.loop-k.invariant (omega arith) w.from.result
          (w.from.ensures ∙ ap (λ b. cond b openly.always openly.never) c.letter-truth.ensures))
      | else-letter-truth w ↦ subst P (sym w.letters-is) (subst P (sym (set-get_or c.loop-k.letters k _)) (spelled_same old new k c.loop-k.letters c.loop-k.invariant (omega arith)
          (sym c.letter.ensures ∙ same_tests c.letter.result c.letter-truth.result w.if-letter-truth.false ∙ c.letter-truth.ensures)))
    ]

pub returns : goal.returns
returns c = spelled_all c.args.old.letters c.args.new.letters c.loop-k.k c.loop-k.letters (omega arith) c.loop-k.invariant
