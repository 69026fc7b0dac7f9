-- What the operations on conditions mean at each setting of the waits.
use Rattle.std.specs.Prelude.{◌≡◌, ℕ, ◌+◌, ◌-◌, ◌*◌, ◌/◌, ◌%◌, ◌^◌, ◌<◌, slice_index}
use Rattle.std.proofs.Common.{sym, ap, ap₂, ◌∙◌, arith}
use Rattle.std.proofs.lemmas.List.{ext_get_or}
use Rattle.std.specs.Int.Bits.{bit_and, bit_or}
use Rattle.std.proofs.lemmas.Nat.{div-mul-add, mod-mul-add}
use Rattle.truth.specs.Laws.{Laws, Splits, Meant}
use Rattle.truth.specs.Plain.{plainly}
use Rattle.truth.specs.Pulled.{pulled, pulled_splits}
use Rattle.truth.specs.Plainly.{plain_laws, plain_splits}
use Rattle.truth.specs.declared.table.Condition.{Condition}
use Rattle.truth.specs.Words.{word_count, settings, bit}
use Rattle.truth.specs.Tables.{word, table, table_at, means, openly}
use Rattle.truth.specs.Digits.{bit_of_and, bit_of_or, bit_of_not, bit_full, bit_zero, bits_same}
use Rattle.truth.specs.Same.{same_words}

at_word : (n : ℕ) → n < settings → n / 64 < word_count
at_word n h = omega arith

pub at_bit : (n : ℕ) → n % 64 < 64
at_bit n = omega arith

-- the bit at the setting n of a table
pub table_bit : (f : ℕ → ℕ) (n : ℕ) → n < settings → bit (slice_index (table f) (n / 64)) (n % 64) ≡ bit (f (n / 64)) (n % 64)
table_bit f n h = ap (λ x. bit x (n % 64)) (table_at f (n / 64) (at_word n h))

-- conditions that agree on every setting are the same
pub by_meaning : (c d : Condition) → ((n : ℕ) → n < settings → means c n ≡ means d n) → c ≡ d
by_meaning c d e =
    same_words c d (ext_get_or 0 c.words d.words (c.long ∙ sym d.long) (λ i h.
    let l : i < word_count = omega (arith, c.long) in
    bits_same 64 (word c i) (word d i) (c.fit i l) (d.fit i l) (λ k m.
    ap₂ (λ x y. bit (word c x) y) (sym (div-mul-add i 64 k m)) (sym (mod-mul-add i 64 k m))
    ∙ e (i * 64 + k) (omega arith)
    ∙ ap₂ (λ x y. bit (word d x) y) (div-mul-add i 64 k m) (mod-mul-add i 64 k m))))

pub meant : Meant openly plainly settings means
meant = record {
  some = omega arith;
  never = λ n h. table_bit (λ _. 0) n h ∙ bit_zero (n % 64);
  always = λ n h. table_bit (λ _. 2 ^ 64 - 1) n h ∙ bit_full (n % 64) (at_bit n);
  both = λ c d n h. table_bit (λ i. bit_and (word c i) (word d i)) n h ∙ bit_of_and (word c (n / 64)) (word d (n / 64)) (n % 64);
  either = λ c d n h. table_bit (λ i. bit_or (word c i) (word d i)) n h ∙ bit_of_or (word c (n / 64)) (word d (n / 64)) (n % 64);
  not = λ c n h. table_bit (λ i. 2 ^ 64 - 1 - word c i) n h ∙ bit_of_not (word c (n / 64)) (n % 64) (c.fit (n / 64) (at_word n h)) (at_bit n);
  apart = by_meaning;
}

pub open_laws : Laws openly
open_laws = pulled meant plain_laws

pub open_splits : Splits openly
open_splits = pulled_splits meant plain_splits
