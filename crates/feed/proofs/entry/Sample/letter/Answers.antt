-- A letter past the word is not there.
use Rattle.std.proofs.Common.{◌%◌, ◌^◌, ◌<◌, eqb, sym, ap, ◌∙◌, arith, pow_mono, w16, Fits, rules}
use native.Mathlib.Nat.{div-eq_of_lt}
use Rattle.std.proofs.lemmas.Bool.{le-ltb}
use Rattle.feed.proofs.entry.Sample.letter.Goals as goal

pub returns-else-k-lt16 : goal.returns-else-k-lt16
returns-else-k-lt16 c =
    let w = c.args.self.letters in
    let k = c.args.k in
    let f : Fits w16 w = search rules in
    let below : w < 2 ^ k = omega (arith, pow_mono c.if-k-lt16.false) in
    le-ltb k 16 c.if-k-lt16.false ∙ sym (ap (λ q. eqb (q % 2) 1) (div-eq_of_lt below))
