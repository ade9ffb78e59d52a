-- Forms on the values that a distribution gives.
use Rattle.std.specs.Prelude.{[], ◌∷◌}
use Rattle.gb_core.specs.declared.ty.Ty.{Ty}
use Rattle.gb_core.specs.declared.ty.Ty.TheVariants.{Bool as bool_ty, Real as real_ty}
use Rattle.gb_terms.specs.declared.op.Op.TheVariants.{InSupport, Mu1}
use Rattle.gb_terms.specs.declared.term.Term.{Term}
use Rattle.gb_terms.specs.declared.term.Head.TheVariants.{All, Bound}
use Rattle.gb_terms.specs.Make.{node, applied}
use Rattle.gb_typing.specs.Forms.{implies_form}

-- the variable of the nearest binder
abbrev pub nearest : Ty → Term
nearest t = node (Bound 0) [] t

-- `v \in d`
abbrev pub in_support : Term → Term → Term
in_support v d = applied InSupport (v ∷ d ∷ []) bool_ty

-- `mu1 d v`
abbrev pub weight : Term → Term → Term
weight d v = applied Mu1 (d ∷ v ∷ []) real_ty

-- `forall v, v \in d => F`, over a type
abbrev pub for_support : Ty → Term → Term → Term
for_support t d f = node (All t) (implies_form (in_support (nearest t) d) f ∷ []) bool_ty
