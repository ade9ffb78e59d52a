-- A memory between two others.
use Rattle.std.specs.Prelude.{Bool, ◌||◌, if◌then◌else◌, [], ◌∷◌}
use Rattle.gb_core.specs.declared.ty.Ty.TheVariants.{Bool as bool_ty}
use Rattle.gb_terms.specs.declared.op.Op.TheVariants.{And}
use Rattle.gb_terms.specs.declared.op.Side.TheVariants.{Bound, Left, Right}
use Rattle.gb_terms.specs.declared.term.Term.{Term}
use Rattle.gb_terms.specs.declared.term.Head.TheVariants.{SomeMemory}
use Rattle.gb_terms.specs.Make.{applied, node}
use Rattle.gb_walk.specs.declared.change.Change.TheVariants.{ToSide}
use Rattle.gb_walk.specs.Change.{term_changed}
use Rattle.gb_walk.specs.Sides.{reads_side}

-- a relation of both sides as one of the left memory and the nearest bound one, and as one of that memory and the right one
abbrev pub from_left : Term → Term
from_left f = term_changed f (ToSide Right (Bound 0) ∷ [])

abbrev pub to_right : Term → Term
to_right f = term_changed f (ToSide Left (Bound 0) ∷ [])

-- whether the memory between two relations is read
abbrev pub reads_between : Term → Term → Bool
reads_between f h = reads_side f Right || reads_side h Left

-- `exists &3, P1(1, 3) /\ P2(3, 2)`; the quantifier is left out where that memory isn't read
abbrev pub some_between : Term → Term → Term
some_between f h =
    if reads_between f h then node SomeMemory (applied And (from_left f ∷ to_right h ∷ []) bool_ty ∷ []) bool_ty
    else applied And (f ∷ h ∷ []) bool_ty
