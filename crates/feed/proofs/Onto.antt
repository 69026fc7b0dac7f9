-- A list written to the front of another.
use Rattle.std.proofs.Common.{◌≡◌, ℕ, zero, suc, ◌+◌, ◌<◌, ◌≤◌, List, [], ◌∷◌, ◌++◌, length, get_or, take, drop, set, sym, refl, ap, ◌∙◌, ap₂, arith}
use Rattle.std.proofs.lemmas.List.{length-append, length-drop, length-take-le, length_push, drop_more, set_at, take_at, append_assoc, get_or_append_left, take_more, append-nil, drop-drop, drop_all, take-append-drop}
use Rattle.feed.specs.Lists.{onto}

module _ {T : Type 0} where
  pub length_onto : (A S : List T) → length A ≤ length S → length (onto A S) ≡ length S
  length_onto A S h = simp (length-append, length-drop) (omega arith)

  pub take_onto : (A S : List T) (n : ℕ) → length A ≡ n → take n (onto A S) ≡ A
  take_onto A S n e = take_at A (drop (length A) S) n e

  drop_nil : (n : ℕ) → drop {A = T} n [] ≡ []
  drop_nil zero = refl
  drop_nil (suc n) = refl

  pub drop_onto : (A S : List T) (n : ℕ) → length A ≤ n → drop n (onto A S) ≡ drop n S
  drop_onto [] S n h = refl
  drop_onto (a ∷ A) [] zero h = absurd (omega arith)
  drop_onto (a ∷ A) (x ∷ S) zero h = absurd (omega arith)
  drop_onto (a ∷ A) [] (suc n) h = ap (drop n) (ap (λ R. A ++ R) (sym (drop_nil (length A)))) ∙ drop_onto A [] n (omega arith) ∙ drop_nil n
  drop_onto (a ∷ A) (x ∷ S) (suc n) h = drop_onto A S n (omega arith)

  pub getD_onto : (A S : List T) (i : ℕ) (d : T) → i < length A → get_or (onto A S) i d ≡ get_or A i d
  getD_onto A S i d h = get_or_append_left A (drop (length A) S) d i h

  pub onto_onto : (A B S : List T) → length A ≤ length B → onto B (onto A S) ≡ onto B S
  onto_onto A B S h = ap (λ R. B ++ R) (drop_onto A S (length B) h)

  pub onto_more : (A S : List T) (n : ℕ) (v : T) → length A ≡ n → n < length S → set (onto A S) n v ≡ onto (A ++ v ∷ []) S
  onto_more A S n v e h =
      let rest : drop (length A) S ≡ get_or S (length A) v ∷ drop (length A + 1) S = drop_more S (length A) v (omega arith) in
      ap (λ R. set (A ++ R) n v) rest ∙ set_at A (get_or S (length A) v) (drop (length A + 1) S) v n e
      ∙ sym (append_assoc A (v ∷ []) (drop (length A + 1) S))
      ∙ ap (λ m. (A ++ v ∷ []) ++ drop m S) (sym (length_push A v))

  -- one more of B behind A
  pub onto_take_more : (A B S : List T) (n i : ℕ) (v : T) → length A ≡ n → i < length B → n + length B ≤ length S → v ≡ get_or B i v
      → set (onto (A ++ take i B) S) (n + i) v ≡ onto (A ++ take (i + 1) B) S
  onto_take_more A B S n i v e h r w =
      let front : length (A ++ take i B) ≡ n + i = rw (length-append A (take i B), length-take-le i B (omega arith)) (omega arith) in
      let more : take (i + 1) B ≡ take i B ++ v ∷ [] = take_more B i v h ∙ ap (λ y. take i B ++ y ∷ []) (sym w) in
      onto_more (A ++ take i B) S (n + i) v front (omega arith)
      ∙ ap (λ R. onto R S) (append_assoc A (take i B) (v ∷ []) ∙ ap (λ R. A ++ R) (sym more))

  pub onto_part : (S : List T) (n : ℕ) → n ≤ length S → S ≡ onto (take n S ++ []) S
  onto_part S n h = rw (append-nil (take n S), length-take-le n S h) (sym (take-append-drop n S))

  -- all of a list is written over
  pub onto_all : (A S : List T) → length A ≡ length S → onto A S ≡ A
  onto_all A S e = ap (λ R. A ++ R) (drop_all (length A) S (omega arith)) ∙ append-nil A

  -- two parts in front of what is left are written over the whole
  pub onto_split : (A B S : List T) (n m : ℕ) → length A ≡ n → length B ≡ m → A ++ (B ++ drop m (drop n S)) ≡ onto (A ++ B) S
  onto_split A B S n m e h =
      sym (append_assoc A B (drop m (drop n S)))
      ∙ ap (λ R. (A ++ B) ++ R) (drop-drop m n S ∙ ap (λ i. drop i S) (ap₂ (λ x y. x + y) (sym e) (sym h) ∙ sym (length-append A B)))
