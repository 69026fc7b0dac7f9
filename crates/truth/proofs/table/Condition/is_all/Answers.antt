-- Every word is that word, or one is not.
use Rattle.std.proofs.Common.{◌≡◌, ℕ, ◌%◌, ◌^◌, sym, refl, ap, ◌∙◌, mod-eq_of_lt, arith}
use Rattle.truth.specs.Tables.{word, table_at}
use Rattle.truth.specs.Same.{is_made}
use Rattle.truth.proofs.table.Condition.is_all.Goals as goal

pub returns-then-self-i : goal.returns-then-self-i
returns-then-self-i c =
    let w = c.args.word in
    let i = c.loop-i.i in (
      (λ e. absurd (let z : ◌≡◌ {A = ℕ} 0 1 = cc in omega arith)),
      λ e. absurd (c.if-self-i.true (ap (λ d. word d i) e ∙ table_at (λ _. w % 2 ^ 64) i (omega arith) ∙ mod-eq_of_lt (omega arith))),
    )

pub returns : goal.returns
returns c = ((λ _. is_made _ _ _ (λ k l. c.loop-i.invariant k (omega arith) ∙ sym (mod-eq_of_lt (omega arith)))), λ _. refl)
