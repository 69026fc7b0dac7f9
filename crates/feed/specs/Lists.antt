-- Lists: the first, the others, whether there is one; and a list written over the front of another.
use Rattle.std.specs.Prelude.{Bool, true, false, List, [], ◌∷◌, ◌++◌, length, drop, Some, None, Option}

-- the first of a list, if there is one
abbrev pub first : {A : Type 0} → List A → Option A
first [] = None
first (x ∷ xs) = Some x

-- all but the first
abbrev pub others : {A : Type 0} → List A → List A
others [] = []
others (x ∷ xs) = xs

-- whether a list has a first
abbrev pub some_left : {A : Type 0} → List A → Bool
some_left [] = false
some_left (x ∷ xs) = true

-- xs written over the front of ys, the rest of which stays
abbrev pub onto : {A : Type 0} → List A → List A → List A
onto xs ys = xs ++ drop (length xs) ys
