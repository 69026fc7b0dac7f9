-- The entries of a pattern: one on, at the end, and by the words in use.
use Rattle.std.proofs.Common.{Ok, ◌≡◌, ℕ, zero, suc, ◌+◌, ◌-◌, ◌/◌, ◌%◌, ◌<◌, ◌≤◌, ltb, List, [], ◌∷◌, ◌++◌, length, sym, refl, ap, ◌∙◌, ⊎_elim, div-mul-le_self, arith}
use Rattle.std.proofs.lemmas.Nat.{le-div, mod_below}
use Rattle.std.proofs.lemmas.List.{get_or_append_left}
use Rattle.std.proofs.lemmas.Bool.{cases_lt, lt-ltb, le-ltb}
use Rattle.feed.specs.declared.entry.Entry.{Entry}
use Rattle.feed.specs.Lists.{some_left}
use Rattle.feed.specs.Patterns.{pattern_entry, pattern_from, pattern_entries}

module _ (s r : ℕ) (ws : List ℕ) (w k n : ℕ) where
  pub pattern_more : k < n → pattern_from s r ws w k (n - k) ≡ pattern_entry s r ws w k ∷ pattern_from s r ws w (k + 1) (n - (k + 1))
  pattern_more h = let e : n - k ≡ suc (n - (k + 1)) = omega arith in ap (pattern_from s r ws w k) e

  pattern_none : n ≤ k → pattern_from s r ws w k (n - k) ≡ []
  pattern_none h = let e : n - k ≡ 0 = omega arith in ap (pattern_from s r ws w k) e

  pub pattern_some : ltb k n ≡ some_left (pattern_from s r ws w k (n - k))
  pattern_some =
      ⊎_elim
      (λ h. lt-ltb k n h ∙ sym (ap some_left (pattern_more h)))
      (λ h. le-ltb k n h ∙ sym (ap some_left (pattern_none h)))
      (cases_lt k n)

pub div_grows : (a b k : ℕ) → 0 < k → a ≤ b → a / k ≤ b / k
div_grows a b k p h = le-div (a / k) b k p (omega (arith, div-mul-le_self a k))

-- only the words in use are read
pattern_front : (s r : ℕ) (vs rest : List ℕ) (k n : ℕ) → 0 < length vs →
    pattern_from s r (vs ++ rest) (length vs) k n ≡ pattern_from s r vs (length vs) k n
pattern_front s r vs rest k zero h = refl
pattern_front s r vs rest k (suc n) h =
    let w = length vs in
    let at : ℕ → Entry = (λ l. record { place = k; content = Ok (record { stamp = s + k / r; letters = l }) }) in
    ap (λ l. at l ∷ pattern_from s r (vs ++ rest) w (k + 1) n) (get_or_append_left vs rest 0 (k % w) (mod_below k w h))
    ∙ ap (λ es. pattern_entry s r vs w k ∷ es) (pattern_front s r vs rest (k + 1) n h)

-- a pattern just made gives its whole list
pub pattern_made : (s r : ℕ) (us vs rest : List ℕ) (c : ℕ) → us ≡ vs → 0 < length vs →
    pattern_from s r (us ++ rest) (length vs) 0 (c - 0) ≡ pattern_entries s r vs c
pattern_made s r us vs rest c e h =
    let z : c - 0 ≡ c = omega arith in
    ap (λ x. pattern_from s r (x ++ rest) (length vs) 0 (c - 0)) e
    ∙ pattern_front s r vs rest 0 (c - 0) h ∙ ap (pattern_from s r vs (length vs) 0) z
