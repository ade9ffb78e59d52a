-- Small forms about the globals of modules.
use Rattle.std.specs.Prelude.{[], ◌∷◌}
use Rattle.gb_core.specs.declared.ty.Ty.TheVariants as ty
use Rattle.gb_core.specs.declared.var.Var.TheVariants.{Glob}
use Rattle.gb_terms.specs.declared.op.Op.TheVariants.{And, Equal, Oget}
use Rattle.gb_terms.specs.declared.op.Side.{Side}
use Rattle.gb_terms.specs.declared.op.Side.TheVariants as side
use Rattle.gb_terms.specs.declared.op.Side.TheVariants.{Left, Right}
use Rattle.gb_terms.specs.declared.op.Read.TheVariants.{Logical, Program}
use Rattle.gb_terms.specs.declared.term.Term.{Term}
use Rattle.gb_terms.specs.declared.term.Head.TheVariants.{Read, All, AllMemory, Bound}
use Rattle.gb_meaning.specs.Names.{Name}
use Rattle.gb_meaning.specs.Trees.{term, options}
use Rattle.gb_meaning.specs.Examples.{operator}

-- A and B
abbrev pub a : Name
a = 65 ∷ []

abbrev pub b : Name
b = 66 ∷ []

-- `(glob M){1}`, `(glob M){2}`
abbrev pub globals_of : Name → Side → Term
globals_of m s = term (Read (Program (Glob m) s)) [] (ty.Glob m)

abbrev pub globals_in : Side → Term
globals_in = globals_of a

abbrev pub equal : Term → Term → Term
equal t u = operator Equal (t ∷ u ∷ []) ty.Bool

-- `={glob A}`, and the same the other way round
abbrev pub alike : Term
alike = equal (globals_in Left) (globals_in Right)

abbrev pub turned : Term
turned = equal (globals_in Right) (globals_in Left)

-- `forall (g : glob A), g = (glob A){1}`
abbrev pub only_one : Term
only_one = term (All (ty.Glob a)) (equal (term (Bound 0) [] (ty.Glob a)) (globals_in Left) ∷ []) ty.Bool

-- `forall &m, (glob M){m} = (glob M){1}` of A, and of A and B at once
abbrev pub as_left : Name → Term
as_left m = equal (globals_of m (side.Bound 0)) (globals_of m Left)

abbrev pub in_each_memory : Term
in_each_memory = term AllMemory (as_left a ∷ []) ty.Bool

abbrev pub both_in_each : Term
both_in_each = term AllMemory (operator And (as_left a ∷ as_left b ∷ []) ty.Bool ∷ []) ty.Bool

-- `oget x = oget x`, where x is a variable of type `(glob A) option`
abbrev pub value_of_x : Term
value_of_x = operator Oget (term (Read (Logical 0)) [] (options (ty.Glob a)) ∷ []) (ty.Glob a)

abbrev pub one_value : Term
one_value = equal value_of_x value_of_x
