-- Types of variables: those of a model's world, and as types of values.
use Rattle.std.proofs.Common.{[], ◌∷◌, true, false, refl}
use Rattle.std.proofs.lemmas.Bool.{false≢true}
use mathlib.Core.Former.{Count}
use Rattle.gb_core.specs.declared.ty.Ty.{Ty, Row_of-Ty, end_of-Ty, more_of-Ty}
use Rattle.gb_core.specs.declared.ty.Ty.TheVariants as ty
use Rattle.gb_meaning.specs.Values.{World, Types}
use Rattle.gb_laws.specs.Finite.{AreFiniteWith, IsFinite, IsVariableType, AreVariables}
use Rattle.gb_meaning.specs.Typing.{IsPlain, ArePlain}
use Rattle.gb_meaning.specs.Holds.{HaveVariableTypes}

mutual
  variable_type : (t : Ty) → IsPlain t → IsVariableType t
  variable_type (ty.Mod n) h = h
  variable_type (ty.Enumeration name n) h = h
  variable_type (ty.Tuple' n ts) h = variable_types ts h
  variable_type (ty.Opt' p x) h = variable_types x h
  variable_type (ty.Map' p k q x) h = (variable_types k h.0, variable_types x h.1)
  variable_type (ty.Glob a) h = absurd h
  variable_type (ty.Distr' p x) h = absurd h
  variable_type ty.Int h = absurd h
  variable_type ty.Real h = absurd h
  variable_type _ h = tt

  variable_types : {n : Count} (ts : Row_of-Ty n) → ArePlain ts → AreFiniteWith false ts
  variable_types end_of-Ty h = tt
  variable_types (more_of-Ty t ts) h = (variable_type t h.0, variable_types ts h.1)

mutual
  pub variable_plain : (t : Ty) → IsVariableType t → IsPlain t
  variable_plain (ty.Mod n) h = h
  variable_plain (ty.Enumeration name n) h = h
  variable_plain (ty.Tuple' n ts) h = variables_plain ts h
  variable_plain (ty.Opt' p x) h = variables_plain x h
  variable_plain (ty.Map' p k q x) h = (variables_plain k h.0, variables_plain x h.1)
  variable_plain (ty.Glob a) h = absurd (false≢true h)
  variable_plain (ty.Distr' p x) h = absurd h
  variable_plain ty.Int h = absurd h
  variable_plain ty.Real h = absurd h
  variable_plain _ h = tt

  variables_plain : {n : Count} (ts : Row_of-Ty n) → AreFiniteWith false ts → ArePlain ts
  variables_plain end_of-Ty h = tt
  variables_plain (more_of-Ty t ts) h = (variable_plain t h.0, variables_plain ts h.1)

mutual
  -- a type of variables is one of values
  pub variable_finite : (t : Ty) → IsVariableType t → IsFinite t
  variable_finite (ty.Tuple' n ts) f = variables_finite ts f
  variable_finite (ty.Opt' p x) f = variables_finite x f
  variable_finite (ty.Map' p k q x) f = (variables_finite k f.0, variables_finite x f.1)
  variable_finite (ty.Glob a) f = refl
  variable_finite (ty.Distr' p x) f = absurd f
  variable_finite _ f = f

  variables_finite : {n : Count} (ts : Row_of-Ty n) → AreFiniteWith false ts → AreFiniteWith true ts
  variables_finite end_of-Ty f = tt
  variables_finite (more_of-Ty t r) f = (variable_finite t f.0, variables_finite r f.1)

pub world_variables : (ts : Types) (w : World) → HaveVariableTypes ts w → AreVariables w
world_variables ts [] h = tt
world_variables ts (x ∷ w) h = (variable_type x.ty h.0.0, world_variables ts w h.1)
