-- The operations of a kind of truth, and their laws.
use Rattle.std.specs.Prelude.{◌≡◌, ℕ, ◌<◌}

-- the operations of a kind of truth
pub record Ops (T : Type 0) : Type 0 where
  pub never : T
  pub always : T
  pub both : T → T → T
  pub either : T → T → T
  pub not : T → T

-- the laws that every kind keeps: a bounded distributive lattice with De Morgan's negation
pub record Laws {T : Type 0} (k : Ops T) : Type 0 where
  pub both_comm : (x y : T) → k.both x y ≡ k.both y x
  pub either_comm : (x y : T) → k.either x y ≡ k.either y x
  pub both_assoc : (x y z : T) → k.both (k.both x y) z ≡ k.both x (k.both y z)
  pub either_assoc : (x y z : T) → k.either (k.either x y) z ≡ k.either x (k.either y z)
  pub both_over : (x y z : T) → k.both x (k.either y z) ≡ k.either (k.both x y) (k.both x z)
  pub either_over : (x y z : T) → k.either x (k.both y z) ≡ k.both (k.either x y) (k.either x z)
  pub both_always : (x : T) → k.both k.always x ≡ x
  pub either_never : (x : T) → k.either k.never x ≡ x
  pub both_never : (x : T) → k.both k.never x ≡ k.never
  pub either_always : (x : T) → k.either k.always x ≡ k.always
  pub not_not : (x : T) → k.not (k.not x) ≡ x
  pub not_both : (x y : T) → k.not (k.both x y) ≡ k.either (k.not x) (k.not y)
  pub not_either : (x y : T) → k.not (k.either x y) ≡ k.both (k.not x) (k.not y)
  pub differ : k.never ≡ k.always → ⊥

-- the two laws of x and not x, which not every kind keeps
pub record Splits {T : Type 0} (k : Ops T) : Type 0 where
  pub both_not : (x : T) → k.both x (k.not x) ≡ k.never
  pub either_not : (x : T) → k.either x (k.not x) ≡ k.always

-- what the operations of k mean in b at each place below size, which tells values apart
pub record Meant {T S : Type 0} (k : Ops T) (b : Ops S) (size : ℕ) (m : T → ℕ → S) : Type 0 where
  pub some : 0 < size
  pub never : (n : ℕ) → n < size → m k.never n ≡ b.never
  pub always : (n : ℕ) → n < size → m k.always n ≡ b.always
  pub both : (x y : T) (n : ℕ) → n < size → m (k.both x y) n ≡ b.both (m x n) (m y n)
  pub either : (x y : T) (n : ℕ) → n < size → m (k.either x y) n ≡ b.either (m x n) (m y n)
  pub not : (x : T) (n : ℕ) → n < size → m (k.not x) n ≡ b.not (m x n)
  pub apart : (x y : T) → ((n : ℕ) → n < size → m x n ≡ m y n) → x ≡ y
