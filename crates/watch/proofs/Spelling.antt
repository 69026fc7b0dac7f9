-- Letters that are spelled out one after another where those of an older sample stand.
use Rattle.std.proofs.Common.{◌≡◌, ℕ, ◌+◌, ◌<◌, ◌≤◌, Bool, true, false, cond, not, ◌≢◌, List, map, length, get_or, set, sym, refl, ap, ◌∙◌, arith, get_or-set_other, get_or-set_same, below_more}
use mathlib.Core.Bool.{beq}
use Rattle.std.specs.List.{range_with_len}
use Rattle.std.proofs.lemmas.List.FromFn.{fill_by_all, get_or-map-range_with_len, length-map-range_with_len}
use Rattle.std.proofs.lemmas.List.{length-set}
use Rattle.truth.specs.declared.table.Condition.{Condition}
use Rattle.truth.specs.Tables.{openly}
use Rattle.feed.specs.Entries.{letter_count, letter_of}
use Rattle.logic.specs.Draws.{lettered}

-- tests that do not differ
pub same_tests : (a b : Bool) → not (beq a b) ≡ false → a ≡ b
same_tests true true e = refl
same_tests true false e = e
same_tests false true e = sym e
same_tests false false e = refl

-- the first k letters are those of the word new, and the others those of the word old
pub record Spelled (old new k : ℕ) (L : List Condition) : Type 0 where
  pub long : length L ≡ letter_count
  pub front : (n : ℕ) → n < k → get_or L n openly.never ≡ lettered new n
  pub back : (n : ℕ) → k ≤ n → n < letter_count → get_or L n openly.never ≡ lettered old n

pub spelled_none : (old new : ℕ) (L : List Condition) → L ≡ map (lettered old) (range_with_len 0 letter_count) → Spelled old new 0 L
spelled_none old new L e = record {
  long = ap length e ∙ length-map-range_with_len (lettered old) 0 letter_count;
  front = λ n h. absurd (omega arith);
  back = λ n _ h. ap (λ l. get_or l n openly.never) e ∙ get_or-map-range_with_len (lettered old) 0 letter_count n n openly.never h (omega arith);
}

pub spelled_all : (old new k : ℕ) (L : List Condition) → letter_count ≤ k → Spelled old new k L → L ≡ map (lettered new) (range_with_len 0 letter_count)
spelled_all old new k L h p = fill_by_all (lettered new) L letter_count openly.never p.long (λ n l. p.front n (omega arith))

module _ (old new k : ℕ) (L : List Condition) (p : Spelled old new k L) (lt : k < letter_count) where
  -- a letter is written
  pub spelled_more : (v : Condition) → v ≡ lettered new k → Spelled old new (k + 1) (set L k v)
  spelled_more v e =
      let long = p.long in
      record {
        long = length-set L k v ∙ long;
        front = below_more _ _ (λ n h. let ne : n ≢ k = omega arith in rw get_or-set_other (p.front n h)) (let within : k < length L = omega arith in rw get_or-set_same e);
        back = λ n h l. let ne : n ≢ k = omega arith in rw get_or-set_other (p.back n (omega arith) l);
      }

  -- a letter stays
  pub spelled_same : letter_of old k ≡ letter_of new k → Spelled old new (k + 1) L
  spelled_same e = record {
    long = p.long;
    front = below_more _ _ p.front (p.back k (omega arith) lt ∙ ap (λ b. cond b openly.always openly.never) e);
    back = λ n h l. p.back n (omega arith) l;
  }
