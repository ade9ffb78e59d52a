-- What takes the places of the variables of an assignment.
use Rattle.std.specs.Prelude.{ℕ, ◌+◌, Bool, List, [], ◌∷◌, ◌++◌, filter, take, Option, is_some}
use Rattle.gb_core.specs.declared.ty.Ty.{Ty, out-Ty}
use Rattle.gb_core.specs.declared.ty.Ty.TheOpen as layer
use Rattle.gb_core.specs.declared.var.Var.{Var}
use Rattle.gb_terms.specs.declared.op.Op.TheVariants as op
use Rattle.gb_terms.specs.declared.op.Read.TheVariants.{Program}
use Rattle.gb_terms.specs.declared.op.Side.{Side}
use Rattle.gb_terms.specs.declared.term.Term.{Term, out-Term}
use Rattle.gb_terms.specs.declared.term.Head.{Head}
use Rattle.gb_terms.specs.declared.term.Head.TheVariants as head
use Rattle.gb_terms.specs.Make.{applied}
use Rattle.gb_walk.specs.declared.change.Change.TheVariants.{ToTerm}
use Rattle.gb_walk.specs.Change.{Changes, term_changed}
use Rattle.gb_walk.specs.Clash.{Exclusions, first_clash, least}
use Rattle.gb_typing.specs.Forms.{located}

-- the part of a tuple with this number, of this type
abbrev pub part : Term → ℕ → Ty → Term
part e i t = applied (op.Part i) (e ∷ []) t

-- the parts of a tuple from this number on, of these types
abbrev pub parts_from : Term → ℕ → List Ty → List Term
parts_from e i [] = []
parts_from e i (t ∷ ts) = part e i t ∷ parts_from e (i + 1) ts

-- the types of the parts of a tuple, of which there are at most 8
abbrev pub part_types_layer : layer.Ty-F Ty → List Ty
part_types_layer (layer.Tuple ts) = take 8 ts
part_types_layer _ = []

abbrev pub part_types : Ty → List Ty
part_types t = part_types_layer (out-Ty t)

-- the parts of a term: those of a tuple that is written out, else its parts by number
abbrev pub parts_at : Head → List Term → Ty → Term → List Term
parts_at (head.Builtin op.Tuple) es t e = es
parts_at h es t e = parts_from e 1 (part_types t)

abbrev pub parts : Term → List Term
parts e = parts_at (out-Term e).head (out-Term e).args (out-Term e).ty e

-- what a term that is assigned gives to each of these variables: one takes all of it, several take its parts
abbrev pub taken : List Var → Term → List Term
taken (x ∷ []) e = e ∷ []
taken xs e = parts e

-- terms in the places of variables of a memory, all at once; where a variable stands twice, the last term counts
abbrev pub put_in : Side → List Var → List Term → Changes
put_in r [] es = []
put_in r (x ∷ xs) [] = []
put_in r (x ∷ xs) (e ∷ es) = put_in r xs es ++ ToTerm (Program x r) (located r e) ∷ []

-- a form with what is assigned in the places of these variables
abbrev pub assigned_form : Side → List Var → Term → Term → Term
assigned_form r xs e f = term_changed f (put_in r xs (taken xs e))

-- whether a form reads another variable that clashes with this one
abbrev pub is_clashing : Exclusions → Side → Term → Var → Bool
is_clashing es r f x = is_some (first_clash es r x f)

-- the least of these variables with which another one clashes that the form reads
abbrev pub clashing : Exclusions → Side → List Var → Term → Option Var
clashing es r xs f = least (filter (is_clashing es r f) xs)
