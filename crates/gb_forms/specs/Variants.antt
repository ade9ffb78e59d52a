-- Values that become less.
use Rattle.std.specs.Prelude.{[], ◌∷◌}
use Rattle.gb_core.specs.declared.ty.Ty.TheVariants.{Bool as bool_ty}
use Rattle.gb_terms.specs.declared.op.Op.TheVariants.{Less}
use Rattle.gb_terms.specs.declared.term.Term.{Term}
use Rattle.gb_terms.specs.Make.{applied}

abbrev pub less : Term → Term → Term
less a b = applied Less (a ∷ b ∷ []) bool_ty
