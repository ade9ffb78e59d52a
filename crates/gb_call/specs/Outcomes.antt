-- What is said before a call of what is to hold after it.
use Rattle.std.specs.Prelude.{Bool, true, false, ◌||◌, List, [], ◌∷◌, ◌++◌, length, map, filter, Option}
use Rattle.std.specs.List.{list_any}
use Rattle.gb_core.specs.declared.ty.Ty.{Ty}
use Rattle.gb_core.specs.declared.var.Var.{Var}
use Rattle.gb_core.specs.declared.var.Var.TheVariants.{Local}
use Rattle.gb_terms.specs.declared.decl.TypedName.{TypedName}
use Rattle.gb_terms.specs.declared.op.Rel.{Rel}
use Rattle.gb_terms.specs.declared.op.Side.{Side}
use Rattle.gb_terms.specs.declared.op.Read.TheVariants.{Program}
use Rattle.gb_terms.specs.declared.term.Term.{Term}
use Rattle.gb_terms.specs.declared.term.Head.TheVariants.{Bound}
use Rattle.gb_terms.specs.Equal.{var_eq}
use Rattle.gb_terms.specs.Make.{node}
use Rattle.gb_walk.specs.declared.change.Change.TheVariants.{ToTerm}
use Rattle.gb_walk.specs.Change.{Changes, term_changed}
use Rattle.gb_walk.specs.Clash.{Exclusions, least, variables_read}
use Rattle.gb_meaning.specs.Memory.{result_name}
use Rattle.gb_typing.specs.Forms.{located}
use Rattle.gb_prog.specs.AllValues.{in_memory, for_all, to_bound_values}
use Rattle.gb_prog.specs.Writes.{TypedVariable}
use Rattle.gb_prog.specs.Assigned.{put_in, taken, is_clashing}
use Rattle.gb_prog.specs.Likely.{as_likely}
use Rattle.gb_forms.specs.Calls.{is_left_of}
use Rattle.gb_call.specs.Written.{global_seen}
use Rattle.gb_call.specs.declared.outcomes.Outcome as seen
use Rattle.gb_call.specs.declared.written.TypedGlobal.{TypedGlobal}

-- arguments in the places of parameters
abbrev pub put_for : Side → List TypedName → List Term → Changes
put_for r [] es = []
put_for r (x ∷ xs) [] = []
put_for r (x ∷ xs) (e ∷ es) = ToTerm (Program (Local x.name) r) (located r e) ∷ put_for r xs es

-- what is said of the parameters of a procedure, of arguments
abbrev pub of_arguments : Side → List TypedName → List Term → Term → Term
of_arguments r xs es f = term_changed f (put_for r xs es)

-- What a call may change in a memory: the variables of its left side, by a result of this type, and these globals.
pub record Outcome : Type 0 where
  pub side : Side
  pub targets : List Var
  pub result : Ty
  pub globals : List TypedVariable

-- the values of the globals, which are bound
abbrev pub global_values : Outcome → Changes
global_values o = to_bound_values (in_memory o.side o.globals)

-- the result, bound around them
abbrev pub result_bound : Outcome → Term
result_bound o = node (Bound (length (in_memory o.side o.globals))) [] o.result

-- whether one of these variables is x
abbrev pub is_among : List Var → Var → Bool
is_among xs x = list_any (var_eq x) xs

-- whether a form reads a variable of a memory
abbrev pub is_read : Side → Term → Var → Bool
is_read r f x = is_among (variables_read r f) x

-- whether the result occurs: in what is said of the outcome, or in what is said of the left side
abbrev pub reads_result : Outcome → Term → Term → Bool
reads_result o said f = is_read o.side said (Local result_name) || list_any (is_read o.side f) o.targets

-- the variables of which all values are meant: the result, where it occurs, and the globals
abbrev pub bound_of : Bool → Outcome → List TypedVariable
bound_of true o = record { variable = Local result_name; ty = o.result } ∷ o.globals
bound_of false o = o.globals

-- what is said of the outcome of a procedure, of the bound values
abbrev pub of_outcome : Bool → Outcome → Term → Term
of_outcome b o f = term_changed f (to_bound_values (in_memory o.side (bound_of b o)))

-- the result goes to the left side, where it occurs
abbrev pub left_side : Bool → Outcome → Changes
left_side true o = put_in o.side o.targets (taken o.targets (result_bound o))
left_side false o = []

-- what is said after the call, of the bound values
abbrev pub of_return : Bool → Outcome → Term → Term
of_return b o f = term_changed f (left_side b o ++ global_values o)

abbrev pub for_outcomes : Bool → Outcome → Term → Term
for_outcomes b o f = for_all (in_memory o.side (bound_of b o)) f

abbrev pub after_where : Rel → Bool → Outcome → Term → Term → Term
after_where r b o said f = for_outcomes b o (as_likely r (of_return b o f) (of_outcome b o said))

-- For all results and all values of the globals that the procedure writes, what is said of its outcome makes what is said after the call as likely
-- as the relation to a bound asks: with `>=`, the one leads to the other. A quantifier stands only where its variable occurs.
abbrev pub after_call : Rel → Outcome → Term → Term → Term
after_call r o said f = after_where r (reads_result o said f) o said f

-- whether a global is read of the memory after the call
abbrev pub is_left : Side → List Var → Term → Term → Var → Bool
is_left r xs said f = is_left_of xs (variables_read r said) (variables_read r f)

-- whether another variable clashes with x in what is said of the outcome, or after the call
abbrev pub is_clashing_after : Exclusions → Side → Term → Term → Var → Bool
is_clashing_after es r said f x = is_clashing es r said x || is_clashing es r f x

-- the variables of the left side, and the globals that are written, with which another one clashes where it is replaced
abbrev pub clashing_after : Exclusions → Side → List Var → List Var → Term → Term → List Var
clashing_after es r xs written said f = filter (is_clashing es r f) xs ++ filter (is_clashing_after es r said f) written

-- the least of them
abbrev pub clash_after : Exclusions → Side → List Var → List Var → Term → Term → Option Var
clash_after es r xs written said f = least (clashing_after es r xs written said f)

-- the same, as the code has them
abbrev pub globals_seen : List TypedGlobal → List TypedVariable
globals_seen W = map global_seen W

abbrev pub outcome_seen : seen.Outcome → Outcome
outcome_seen o = record { side = o.side; targets = o.targets.now; result = o.result.now; globals = globals_seen o.globals.now }
