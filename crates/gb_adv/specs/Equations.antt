-- Equations of two memories.
use Rattle.std.specs.Prelude.{ℕ, List, [], ◌∷◌}
use Rattle.gb_core.specs.declared.ty.Ty.{Ty}
use Rattle.gb_core.specs.declared.ty.Ty.TheVariants as ty
use Rattle.gb_core.specs.declared.var.Var.{Var}
use Rattle.gb_core.specs.declared.var.Var.TheVariants.{Local, Glob}
use Rattle.gb_terms.specs.declared.decl.TypedName.{TypedName}
use Rattle.gb_terms.specs.declared.op.Read.TheVariants.{Program}
use Rattle.gb_terms.specs.declared.op.Side.{Side}
use Rattle.gb_terms.specs.declared.op.Side.TheVariants.{Left, Right}
use Rattle.gb_terms.specs.declared.term.Head.TheVariants.{Read}
use Rattle.gb_terms.specs.declared.term.Term.{Term}
use Rattle.gb_terms.specs.Make.{node}
use Rattle.gb_meaning.specs.Memory.{result_name}
use Rattle.gb_typing.specs.Forms.{and_form, equal_form, located}

-- a variable, read in a memory
abbrev pub reading : Side → Var → Ty → Term
reading r x t = node (Read (Program x r)) [] t

-- a variable is the same in both memories
abbrev pub same_in_both : Var → Ty → Term
same_in_both x t = equal_form (reading Left x t) (reading Right x t)

-- all that is a module's own is
abbrev pub same_owner : List ℕ → Term
same_owner a = same_in_both (Glob a) (ty.Glob a)

-- the results of procedures are
abbrev pub same_result : Ty → Term
same_result t = same_in_both (Local result_name) t

-- the parameters of two procedures are the same, one by one, each in the memory of its own procedure
abbrev pub same_params : List TypedName → List TypedName → List Term
same_params (x ∷ xs) (y ∷ ys) = equal_form (reading Left (Local x.name) x.ty) (reading Right (Local y.name) y.ty) ∷ same_params xs ys
same_params _ _ = []

-- the same of the arguments of two calls
abbrev pub same_arguments : List Term → List Term → List Term
same_arguments (e ∷ es) (d ∷ ds) = equal_form (located Left e) (located Right d) ∷ same_arguments es ds
same_arguments _ _ = []

-- a form and others behind it, one after another
abbrev pub and_each : Term → List Term → Term
and_each f [] = f
and_each f (e ∷ es) = and_each (and_form f e) es

-- a form and, as one conjunct behind it, others, if there are any
abbrev pub followed_by : Term → List Term → Term
followed_by f [] = f
followed_by f (e ∷ es) = and_form f (and_each e es)

-- .. as one conjunct in front of it
abbrev pub led_by : List Term → Term → Term
led_by [] f = f
led_by (e ∷ es) f = and_form (and_each e es) f
