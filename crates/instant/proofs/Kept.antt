-- The values that a step keeps.
use Rattle.std.proofs.Common.{◌≡◌, ℕ, ◌≤◌, Bool, true, false, List, length, take, ap, arith}
use Rattle.std.proofs.lemmas.List.{length-take-le, length-replicate, take_all}
use Rattle.truth.specs.Laws.{Ops}
use Rattle.instant.specs.Step.{kept}

module _ {T : Type 0} (k : Ops T) where
  pub length_kept : (first : Bool) (n : ℕ) (S : List T) → n ≤ length S → length (kept k first n S) ≡ n
  length_kept true n S h = length-replicate n k.never
  length_kept false n S h = length-take-le n S h

  -- all that is kept of the newest values alone is what is kept of the shelf
  pub kept_front : (first : Bool) (n : ℕ) (S : List T) → n ≤ length S → kept k first (length (take n S)) (take n S) ≡ kept k first n S
  kept_front true n S h = ap (λ m. kept k true m S) (length-take-le n S h)
  kept_front false n S h = take_all (length (take n S)) (take n S) (omega arith)
