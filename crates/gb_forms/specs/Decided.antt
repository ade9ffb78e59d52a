-- What is to hold where a guard is known.
use Rattle.std.specs.Prelude.{Bool, if◌then◌else◌, [], ◌∷◌}
use Rattle.gb_core.specs.declared.ty.Ty.TheVariants.{Bool as bool_ty}
use Rattle.gb_terms.specs.declared.op.Op.TheVariants.{Not}
use Rattle.gb_terms.specs.declared.term.Term.{Term}
use Rattle.gb_terms.specs.Make.{applied}

-- what is to hold where a statement stands whose guard is true, or false
abbrev pub deciding : Bool → Term → Term
deciding t e = if t then e else applied Not (e ∷ []) bool_ty
