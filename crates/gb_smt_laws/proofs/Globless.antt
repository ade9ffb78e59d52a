-- Types of variables speak of no modules' globals.
use Rattle.std.proofs.Common.{false, List, [], ◌∷◌}
use Rattle.std.proofs.lemmas.Bool.{false≢true}
use Rattle.gb_core.specs.declared.ty.Ty.{Ty, Row_of-Ty, end_of-Ty, more_of-Ty}
use Rattle.gb_core.specs.declared.ty.Ty.TheVariants as ty
use Rattle.gb_meaning.specs.Values.{Global}
use Rattle.gb_laws.specs.Finite.{AreFiniteWith, IsVariableType, AreVariables}
use Rattle.gb_meaning.specs.Globs.{IsGlobless, EachGlobIn}
use Rattle.gb_labels.specs.Memories.{AreGlobless}
use mathlib.Core.Former.{Count}

mutual
  globless : (t : Ty) → IsVariableType t → IsGlobless t
  globless (ty.Tuple' n ts) w = each_globless ts w
  globless (ty.Opt' p x) w = each_globless x w
  globless (ty.Map' p k q x) w = (each_globless k w.0, each_globless x w.1)
  globless (ty.Glob a) w = absurd (false≢true w)
  globless (ty.Distr' p x) w = absurd w
  globless _ w = tt

  each_globless : {n : Count} (ts : Row_of-Ty n) → AreFiniteWith false ts → EachGlobIn (λ m. ⊥) ts
  each_globless end_of-Ty w = tt
  each_globless (more_of-Ty t ts) w = (globless t w.0, each_globless ts w.1)

pub are_globless : (xs : List Global) → AreVariables xs → AreGlobless xs
are_globless [] w = tt
are_globless (x ∷ xs) w = (globless x.ty w.0, are_globless xs w.1)
