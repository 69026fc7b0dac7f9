-- What a record has, and what its waits become, means at each place what the meanings there give.
use Rattle.std.proofs.Common.{◌≡◌, ℕ, ◌<◌, Bool, true, false, cond, Some, None, Option, refl, ◌∙◌, ap₂}
use Rattle.truth.specs.Laws.{Ops, Meant}
use Rattle.rule.specs.declared.interval.Interval.{Interval}
use Rattle.rule.specs.declared.record.Record.{Record}
use Rattle.rule.specs.declared.record.Record.TheVariants.{True, Letter, Not, And, Or, Previous, Since, Next, Until}
use Rattle.rule.specs.Intervals.{within, moved, begun}
use Rattle.logic.specs.Values.{at_shift_or, stepped}
use Rattle.logic.specs.Steps.{fitting, across, evaluated, renewed}

module _ {T S : Type 0} {k : Ops T} {b : Ops S} {size : ℕ} {m : T → ℕ → S} (meant : Meant k b size m) (n : ℕ) (lt : n < size) where
  cond_means : (t : Bool) (x : T) → m (cond t x k.never) n ≡ cond t (m x n) b.never
  cond_means true x = refl
  cond_means false x = meant.never n lt

  pub shift_means : (z : Option ℕ) (f : ℕ → T) → m (at_shift_or f k.never z) n ≡ at_shift_or (λ s. m (f s) n) b.never z
  shift_means None f = meant.never n lt
  shift_means (Some s) f = refl

  stepped_means : (I : Interval) (s : ℕ) (left right from : T) → m (stepped k I s left right from) n ≡ stepped b I s (m left n) (m right n) (m from n)
  stepped_means I s left right from =
      meant.either (cond (begun I s) right k.never) (k.both left from) n lt ∙ ap₂ b.either (cond_means (begun I s) right) (meant.both left from n lt)

  fitting_means : (I : Interval) (g : Option ℕ) (x : T) → m (fitting k I g x) n ≡ fitting b I g (m x n)
  fitting_means I None x = meant.never n lt
  fitting_means I (Some g) x = cond_means (within I g) x

  across_means : (I : Interval) (s : ℕ) (g : Option ℕ) (f : ℕ → T) → m (across k I s g f) n ≡ across b I s g (λ t. m (f t) n)
  across_means I s None f = meant.never n lt
  across_means I s (Some g) f = shift_means (moved I s g) f

  pub evaluated_means : (r : Record) (s : ℕ) (letters : ℕ → T) (left right from : T) →
      m (evaluated k r s letters left right from) n ≡ evaluated b r s (λ l. m (letters l) n) (m left n) (m right n) (m from n)
  evaluated_means True s letters left right from = meant.always n lt
  evaluated_means (Letter l) s letters left right from = refl
  evaluated_means (Not a) s letters left right from = meant.not left n lt
  evaluated_means (And a c) s letters left right from = meant.both left right n lt
  evaluated_means (Or a c) s letters left right from = meant.either left right n lt
  evaluated_means (Previous I a) s letters left right from = refl
  evaluated_means (Since I a c) s letters left right from = stepped_means I s left right from
  evaluated_means (Next I a) s letters left right from = refl
  evaluated_means (Until I a c) s letters left right from = stepped_means I s left right from

  pub renewed_means : (r : Record) (g : Option ℕ) (now : ℕ → ℕ → T) (j s : ℕ) → m (renewed k r g now j s) n ≡ renewed b r g (λ a t. m (now a t) n) j s
  renewed_means True g now j s = meant.never n lt
  renewed_means (Letter l) g now j s = meant.never n lt
  renewed_means (Not a) g now j s = meant.never n lt
  renewed_means (And a c) g now j s = meant.never n lt
  renewed_means (Or a c) g now j s = meant.never n lt
  renewed_means (Previous I a) g now j s = meant.never n lt
  renewed_means (Since I a c) g now j s = meant.never n lt
  renewed_means (Next I a) g now j s = fitting_means I g (now a 0)
  renewed_means (Until I a c) g now j s = across_means I s g (now j)
