-- Lists made in part: the elements that are made so far, and those of the old list that they don't reach.
use Rattle.std.specs.Prelude.{List, [], ◌∷◌, ◌++◌, length, drop, Option, Some, None}

-- the elements of the old list behind those that are made
abbrev pub caught_up : {X : Type 0} → List X → List X → List X
caught_up out xs = out ++ drop (length out) xs

-- with what is made in the place behind xs
abbrev pub with_next : {X : Type 0} → List X → List X → Option X → List X
with_next out xs None = out
with_next out xs (Some x) = caught_up out xs ++ (x ∷ [])
