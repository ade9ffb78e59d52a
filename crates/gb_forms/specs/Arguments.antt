-- Bodies of operators at arguments.
use Rattle.std.specs.Prelude.{List, [], ◌∷◌, length}
use Rattle.gb_terms.specs.declared.term.Term.{Term}
use Rattle.gb_walk.specs.declared.change.Change.TheVariants.{OfBound}
use Rattle.gb_walk.specs.Change.{Changes}

-- terms in the places of the variables that an operator's body binds, the last one innermost
abbrev pub in_places : List Term → Changes
in_places [] = []
in_places (t ∷ ts) = OfBound (length ts) t ∷ in_places ts
