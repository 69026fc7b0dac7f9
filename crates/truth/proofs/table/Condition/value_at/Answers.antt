-- Past the last setting the value is false.
use Rattle.std.proofs.Common.{◌/◌, ◌%◌, sym, ap, ◌∙◌, arith}
use Rattle.std.proofs.lemmas.List.{get_or_past}
use Rattle.std.proofs.lemmas.Bool.{le-ltb}
use Rattle.truth.specs.Words.{bit}
use Rattle.truth.specs.Digits.{bit_zero}
use Rattle.truth.proofs.table.Condition.value_at.Goals as goal

pub returns-else-n : goal.returns-else-n
returns-else-n c =
    let s = c.args.self.now in
    let n = c.args.n in
    let past = c.if-n.false in
    le-ltb n 1024 past ∙ sym (ap (λ x. bit x (n % 64)) (get_or_past s.words (n / 64) 0 (omega (arith, s.long))) ∙ bit_zero (n % 64))
