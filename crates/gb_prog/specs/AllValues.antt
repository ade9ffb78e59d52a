-- Forms for all values of variables.
use Rattle.std.specs.Prelude.{List, [], ◌∷◌, length, map}
use Rattle.std.specs.List.{AllByRecursion}
use Rattle.gb_core.specs.declared.ty.Ty.TheVariants.{Bool as bool_ty}
use Rattle.gb_terms.specs.declared.op.Side.{Side}
use Rattle.gb_terms.specs.declared.op.Read.TheVariants.{Program}
use Rattle.gb_terms.specs.declared.term.Term.{Term}
use Rattle.gb_terms.specs.declared.term.Head.TheVariants.{All, Bound}
use Rattle.gb_terms.specs.Make.{node}
use Rattle.gb_walk.specs.declared.change.Change.TheVariants.{ToTerm}
use Rattle.gb_walk.specs.Change.{Changes, term_changed}
use Rattle.gb_meaning.specs.Setting.{Setting}
use Rattle.gb_laws.specs.Written.{IsSide}
use Rattle.gb_laws.specs.Finite.{IsFinite}
use Rattle.gb_typing.specs.Context.{Context, frame_of}
use Rattle.gb_typing.specs.Puts.{Readable}
use Rattle.gb_typing.specs.Typing.{IsIn}
use Rattle.gb_typing.specs.Forms.{IsAlone}
use Rattle.gb_prog.specs.Writes.{TypedVariable}

-- variables, each in a memory
abbrev pub Located : Type 0
Located = Side × TypedVariable

-- these variables, in one memory
abbrev pub in_memory : Side → List TypedVariable → List Located
in_memory r W = map (λ w. (r, w)) W

-- a form for all values of the types of variables, those of the first one outermost
abbrev pub for_all : List Located → Term → Term
for_all [] f = f
for_all (w ∷ W) f = node (All w.1.ty) (for_all W f ∷ []) bool_ty

-- the values that are bound, in place of the variables: inside of that of a variable stand those of the variables behind it
abbrev pub to_bound_values : List Located → Changes
to_bound_values [] = []
to_bound_values (w ∷ W) = ToTerm (Program w.1.variable w.0) (node (Bound (length W)) [] w.1.ty) ∷ to_bound_values W

-- `all W. F`: the form F for all values of the variables W
abbrev pub all_values : List Located → Term → Term
all_values W f = for_all W (term_changed f (to_bound_values W))

-- variables of memories of the context, at their types, which are finite
abbrev pub AreLocated : Context → List Located → Type 0
AreLocated c W = AllByRecursion (λ w. IsSide w.0 × IsIn c (frame_of c w.0) w.1.variable w.1.ty × IsFinite w.1.ty) W

-- of the variables that may be read in its memory none clashes with one of these, but itself
abbrev pub AreAlone : Setting → Readable → List Located → Type 0
AreAlone g P W = AllByRecursion (λ w. IsAlone g w.1.variable (P w.0)) W
