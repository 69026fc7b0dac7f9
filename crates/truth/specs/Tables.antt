-- The operations on open conditions, word by word.
use Rattle.std.specs.Prelude.{◌≡◌, ℕ, ◌-◌, ◌/◌, ◌%◌, ◌^◌, ◌<◌, Bool, List, map, length, bit_and, bit_or, slice_index}
use Rattle.std.proofs.Common.{subst, sym, arith}
use Rattle.std.specs.Int.Bits.{and_lt}
use Rattle.std.proofs.lemmas.Nat.{or_lt}
use Rattle.std.specs.List.{range_with_len}
use Rattle.std.proofs.lemmas.List.FromFn.{length-map-range_with_len, get_or-map-range_with_len}
use Rattle.truth.specs.Laws.{Ops}
use Rattle.truth.specs.Words.{word_count, bit}
use Rattle.truth.specs.declared.table.Condition.{Condition}

-- word i of a condition
abbrev pub word : Condition → ℕ → ℕ
word c i = slice_index c.words i

-- the value at the setting n of the waits
abbrev pub means : Condition → ℕ → Bool
means c n = bit (word c (n / 64)) (n % 64)

-- the words f 0, f 1 and so on
unfoldable pub table : (ℕ → ℕ) → List ℕ
table f = map f (range_with_len 0 word_count)

pub table_long : (f : ℕ → ℕ) → length (table f) ≡ word_count
unfolding table
table_long f = length-map-range_with_len f 0 word_count

pub table_at : (f : ℕ → ℕ) (i : ℕ) → i < word_count → slice_index (table f) i ≡ f i
unfolding table
table_at f i h = get_or-map-range_with_len f 0 word_count i i 0 h (omega arith)

-- the condition with those words
abbrev pub made : (f : ℕ → ℕ) → ((i : ℕ) → i < word_count → f i < 2 ^ 64) → Condition
made f h = record {
  words = table f;
  long = table_long f;
  fit = λ i l. subst (λ x. x < 2 ^ 64) (sym (table_at f i l)) (h i l);
}

-- the condition whose words are all w, cut to 64 bits
abbrev pub uniform : ℕ → Condition
uniform w = made (λ _. w % 2 ^ 64) (λ i l. omega arith)

-- the operations on conditions
abbrev pub openly : Ops Condition
openly = record {
  never = uniform 0;
  always = uniform (2 ^ 64 - 1);
  both = λ c d. made (λ i. bit_and (word c i) (word d i)) (λ i l. and_lt 64 (word c i) (word d i) (c.fit i l) (d.fit i l));
  either = λ c d. made (λ i. bit_or (word c i) (word d i)) (λ i l. or_lt 64 (word c i) (word d i) (c.fit i l) (d.fit i l));
  not = λ c. made (λ i. 2 ^ 64 - 1 - word c i) (λ i l. omega arith);
}
