-- What there is, one after another.
use Rattle.std.proofs.Common.{List, ◌++◌, Option, Some, None}

-- what there is, behind what there was before
abbrev pub joined : {A : Type 0} → List A → Option (List A) → Option (List A)
joined xs None = None
joined xs (Some ys) = Some (xs ++ ys)
