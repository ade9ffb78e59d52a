-- What is said before two calls, one on each side, of what is to hold after both.
use Rattle.std.specs.Prelude.{ℕ, Bool, true, false, List, [], ◌∷◌, ◌++◌, length}
use Rattle.gb_core.specs.declared.var.Var.TheVariants.{Local}
use Rattle.gb_terms.specs.declared.decl.TypedName.{TypedName}
use Rattle.gb_terms.specs.declared.op.Side.TheVariants.{Left, Right}
use Rattle.gb_terms.specs.declared.term.Term.{Term}
use Rattle.gb_terms.specs.declared.term.Head.TheVariants.{Bound}
use Rattle.gb_terms.specs.Make.{node}
use Rattle.gb_walk.specs.Change.{Changes, term_changed}
use Rattle.gb_meaning.specs.Memory.{result_name}
use Rattle.gb_typing.specs.Forms.{implies_form}
use Rattle.gb_prog.specs.AllValues.{Located, in_memory, for_all, to_bound_values}
use Rattle.gb_prog.specs.Assigned.{put_in, taken}
use Rattle.gb_call.specs.Outcomes.{Outcome, put_for, reads_result}
use Rattle.gb_call_both.specs.declared.both.Meant.{Meant}

-- a variable of a memory, as the code has it
abbrev pub bound_seen : Meant → Located
bound_seen m = (m.side, record { variable = m.variable; ty = m.ty })

-- what is said of the parameters of both procedures, of arguments
abbrev pub of_both_arguments : List TypedName → List Term → List TypedName → List Term → Term → Term
of_both_arguments xs es ys ds f = term_changed f (put_for Left xs es ++ put_for Right ys ds)

-- the result of an outcome, where it occurs
abbrev pub result_of : Bool → Outcome → List Located
result_of true o = (o.side, record { variable = Local result_name; ty = o.result }) ∷ []
result_of false o = []

-- the globals of both
abbrev pub globals_of : Outcome → Outcome → List Located
globals_of o p = in_memory o.side o.globals ++ in_memory p.side p.globals

-- a result, with so many variables bound inside of it, goes to the left side, where it occurs
abbrev pub left_side_of : Bool → Outcome → ℕ → Changes
left_side_of true o n = put_in o.side o.targets (taken o.targets (node (Bound n) [] o.result))
left_side_of false o n = []

-- the variables of which all values are meant: the results, where they occur, and those of a list
abbrev pub values_among : Bool → Bool → Outcome → Outcome → List Located → List Located
values_among b d o p G = result_of b o ++ (result_of d p ++ G)

-- the results go to the left sides
abbrev pub results_among : Bool → Bool → Outcome → Outcome → List Located → Changes
results_among b d o p G = left_side_of b o (length (result_of d p ++ G)) ++ left_side_of d p (length G)

-- what is said after the calls, of the bound values
abbrev pub returns_among : Bool → Bool → Outcome → Outcome → List Located → Term → Term
returns_among b d o p G f = term_changed f (results_among b d o p G ++ to_bound_values G)

-- what is said of the bound values leads to it
abbrev pub after_among : Bool → Bool → Outcome → Outcome → List Located → Term → Term → Term
after_among b d o p G said f =
    for_all (values_among b d o p G) (implies_form (term_changed said (to_bound_values (values_among b d o p G))) (returns_among b d o p G f))

-- the same of the globals of both outcomes
abbrev pub bound_of_both : Bool → Bool → Outcome → Outcome → List Located
bound_of_both b d o p = values_among b d o p (globals_of o p)

abbrev pub left_sides : Bool → Bool → Outcome → Outcome → Changes
left_sides b d o p = results_among b d o p (globals_of o p)

abbrev pub of_both_returns : Bool → Bool → Outcome → Outcome → Term → Term
of_both_returns b d o p f = returns_among b d o p (globals_of o p) f

abbrev pub after_both_where : Bool → Bool → Outcome → Outcome → Term → Term → Term
after_both_where b d o p said f = after_among b d o p (globals_of o p) said f

-- For all results and all values of the globals that the procedures write, what is said of both outcomes leads to what is said after the
-- calls. A quantifier stands only where its variable occurs: first those of the results, then those of the globals, left before right.
abbrev pub after_both : Outcome → Outcome → Term → Term → Term
after_both o p said f = after_both_where (reads_result o said f) (reads_result p said f) o p said f
