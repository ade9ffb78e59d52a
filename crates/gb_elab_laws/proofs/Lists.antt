-- What holds of lists one behind another.
use Rattle.std.proofs.Common.{List, [], ◌∷◌, ◌++◌}
use Rattle.std.specs.List.{AllByRecursion}

module _ {X : Type 0} (P : X → Type 0) where
  pub together : (xs ys : List X) → AllByRecursion P xs → AllByRecursion P ys → AllByRecursion P (xs ++ ys)
  together [] ys h k = k
  together (x ∷ xs) ys h k = (h.0, together xs ys h.1 k)

  pub front : (xs ys : List X) → AllByRecursion P (xs ++ ys) → AllByRecursion P xs
  front [] ys h = tt
  front (x ∷ xs) ys h = (h.0, front xs ys h.1)

  pub behind : (xs ys : List X) → AllByRecursion P (xs ++ ys) → AllByRecursion P ys
  behind [] ys h = h
  behind (x ∷ xs) ys h = behind xs ys h.1
