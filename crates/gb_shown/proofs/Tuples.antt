-- Types of tuples, of distributions and of maps in which names are names.
use Rattle.std.proofs.Common.{◌≡◌, List, [], ◌∷◌, Some, sym, ◌∙◌, subst}
use Rattle.std.specs.List.{AllByRecursion}
use Rattle.gb_core.specs.declared.ty.Ty.{Ty}
use Rattle.gb_core.specs.declared.ty.Ty.TheVariants as ty
use Rattle.gb_laws.specs.Operators.{row, maps}
use Rattle.gb_laws.proofs.Constructors.{distribution_is, map_is, tuple_is}
use Rattle.gb_operators.specs.Kinds.{entries}
use Rattle.gb_elab_laws.proofs.Tested.{map_of}
use Rattle.gb_shown.specs.Named.{IsNamedType, AreNamedTypes, IsNamedResult}

row_named : (ts : List Ty) → AllByRecursion IsNamedType ts → AreNamedTypes (row ts)
row_named [] k = tt
row_named (t ∷ ts) k = (k.0, row_named ts k.1)

pub tuple_named : (t u : Ty) (ts : List Ty) → IsNamedType t → IsNamedType u → AllByRecursion IsNamedType ts → IsNamedType (ty.Tuple (t ∷ u ∷ ts))
tuple_named t u ts h k l = subst IsNamedType (sym (tuple_is (t ∷ u ∷ ts))) (tt, row_named (t ∷ u ∷ ts) (h, (k, l)))

pub drawn_named : (t : Ty) → IsNamedType t → IsNamedResult (ty.Distr t)
drawn_named t h = subst IsNamedResult (sym (distribution_is t)) (h, tt)

-- the types of keys and of values
pub map_parts_named : (t : Ty) (e : Ty × Ty) → IsNamedType t → entries t ≡ Some e → IsNamedType e.0 × IsNamedType e.1
map_parts_named t e h is = let k : IsNamedType (maps e.0 e.1) = subst IsNamedType (map_of t e is ∙ map_is e.0 e.1) h in (k.0.0, k.1.0)
