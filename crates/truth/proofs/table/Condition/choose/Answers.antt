-- The words that were made fit, and are those of the choice.
use Rattle.std.proofs.Common.{◌≡◌, ℕ, ◌-◌, ◌^◌, sym, ap, ◌∙◌, ap₂, arith, rules}
use lib.Bits.{bit_and, bit_or, and_lt, or_lt}
use Rattle.truth.specs.declared.table.Condition.{Condition}
use Rattle.truth.specs.Tables.{word, table_at}
use Rattle.truth.specs.Same.{is_made}
use Rattle.truth.proofs.Made.{made_at}
use Rattle.truth.proofs.table.Condition.choose.Goals as goal

-- word i of the choice
abbrev chosen : Condition → Condition → Condition → ℕ → ℕ
chosen s h l i = bit_or (bit_and (word s i) (word h i)) (bit_and (2 ^ 64 - 1 - word s i) (word l i))

pub invariant_of-result-clause-fit : goal.invariant_of-result-clause-fit
invariant_of-result-clause-fit c i lt =
    let s = c.args.self.now in
    let h = c.args.high.now in
    let l = c.args.low.now in
    rw (made_at _ (λ i y. y ≡ chosen s h l i) 0 _ _ 16 c.from_fn.ensures.items (λ i y q m. (search rules, search rules)) i lt)
    (or_lt 64 _ _ (and_lt 64 _ _ (s.fit i lt) (h.fit i lt)) (and_lt 64 _ _ (omega arith) (l.fit i lt)))

pub returns : goal.returns
returns c =
    let s = c.args.self.now in
    let h = c.args.high.now in
    let l = c.args.low.now in
    is_made _ _ _ (λ k lt.
    made_at _ (λ i y. y ≡ chosen s h l i) 0 _ _ 16 c.from_fn.ensures.items (λ i y q m. (search rules, search rules)) k lt
    ∙ sym (ap₂ bit_or
    (table_at (λ i. bit_and (word s i) (word h i)) k lt)
    (table_at _ k lt ∙ ap (λ x. bit_and x (word l k)) (table_at (λ i. 2 ^ 64 - 1 - word s i) k lt))))
