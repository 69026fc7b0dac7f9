-- The bits below the count and those above them.
use Rattle.std.proofs.Common.{◌≡◌, ◌/◌, ◌%◌, ◌^◌, sym, ap, ◌∙◌}
use Rattle.std.proofs.lemmas.Nat.{one_shl}
use Rattle.std.proofs.lemmas.Bool.{eqb-true}
use Rattle.truth.specs.Words.{bit}
use Rattle.truth.proofs.Packing.{bit_mod, bit_shr}
use Rattle.truth.proofs.replace.bits_repeat.Goals as goal

pub returns : goal.returns
returns c e k h =
    let x = c.args.word in
    let n = c.args.count in
    let limit = one_shl n 64 c.requires in
    let same : x % 2 ^ n ≡ x / 2 ^ n % 2 ^ n = ap (λ m. x % m) (sym limit) ∙ eqb-true _ _ e ∙ ap (λ m. x / 2 ^ n % m) limit in
    sym (bit_mod x n k h) ∙ ap (λ y. bit y k) same ∙ bit_mod (x / 2 ^ n) n k h ∙ bit_shr x n k
