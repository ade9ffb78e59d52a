-- What is said before procedures, of the arguments and the memories from which they start.
use Rattle.std.specs.Prelude.{List, [], ◌∷◌, ◌++◌}
use Rattle.gb_core.specs.declared.var.Var.TheVariants.{Local}
use Rattle.gb_terms.specs.declared.decl.TypedName.{TypedName}
use Rattle.gb_terms.specs.declared.op.Read.TheVariants.{Program}
use Rattle.gb_terms.specs.declared.op.Side.{Side}
use Rattle.gb_terms.specs.declared.term.Term.{Term}
use Rattle.gb_walk.specs.declared.change.Change.TheVariants.{ToTerm, ToSide}
use Rattle.gb_walk.specs.Change.{Changes}
use Rattle.gb_steps.specs.Chances.{Chance}

-- terms in the places of parameters that are read in this memory
abbrev pub given_for : Side → List TypedName → List Term → Changes
given_for r [] es = []
given_for r (x ∷ xs) [] = []
given_for r (x ∷ xs) (e ∷ es) = ToTerm (Program (Local x.name) r) e ∷ given_for r xs es

-- the arguments in the places of the parameters, and the memory from which the procedure starts in place of this one
abbrev pub started : Side → List TypedName → Chance → Changes
started r xs k = given_for r xs k.arguments ++ ToSide r k.memory ∷ []
