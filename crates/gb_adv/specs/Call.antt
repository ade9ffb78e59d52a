-- `call (_ : I)`: the calls that end bodies, of one procedure of an abstract module, by what its oracles keep.
use Rattle.std.specs.Prelude.{if◌then◌else◌, List, [], ◌∷◌, ◌++◌, filter, Option, Some, None}
use Rattle.gb_core.specs.declared.refusal.Why.TheVariants.{Shape}
use Rattle.gb_core.specs.declared.var.Var.{Var}
use Rattle.gb_core.specs.declared.var.Var.TheVariants.{Glob}
use Rattle.gb_terms.specs.declared.op.Rel.TheVariants.{AtLeast}
use Rattle.gb_terms.specs.declared.op.Side.{Side}
use Rattle.gb_terms.specs.declared.op.Side.TheVariants.{Own, Left, Right}
use Rattle.gb_terms.specs.declared.term.Term.{Term}
use Rattle.gb_walk.specs.Clash.{Exclusions, least, variables_read}
use Rattle.gb_goal.specs.Answers.{Answer}
use Rattle.gb_goal.specs.Answers.Answer.{given}
use Rattle.gb_goal.specs.Goal.{Goal}
use Rattle.gb_goal.specs.Goal.Code.{body}
use Rattle.gb_goal.specs.Goal.Goal.{hoare, equiv}
use Rattle.gb_goal.specs.Rows.{Row, refusing}
use Rattle.gb_goal.specs.Scope.{Declarations}
use Rattle.gb_mods.specs.Exclusions.{exclusions}
use Rattle.gb_mods.specs.Written.{written}
use Rattle.gb_typing.specs.Forms.{and_form}
use Rattle.gb_prog.specs.Writes.{TypedVariable}
use Rattle.gb_call.specs.Call.{if_few, unless_clash}
use Rattle.gb_call.specs.LastCall.{last_call}
use Rattle.gb_call.specs.Outcomes.{Outcome, after_call, clash_after, clashing_after, is_left}
use Rattle.gb_call.specs.Written.{with_types}
use Rattle.gb_adv.specs.Abstract.{AbstractCall, abstract_call, same_abstract}
use Rattle.gb_adv.specs.Equations.{followed_by, same_arguments, same_owner}
use Rattle.gb_adv.specs.Oracles.{behind, each_keep_both, each_keeps, meeting, meeting_both, writes_of}
use Rattle.gb_adv.specs.Returns.{Returns, after_calls}

-- what a call changes, where these globals are read after it
abbrev pub outcome : Side → AbstractCall → List TypedVariable → Outcome
outcome r k W = record { side = r; targets = k.call.targets; result = k.called.type.result; globals = W }

-- of the globals that are written, those that are read of the memory after the call, with their types
abbrev pub read_after : Declarations → Side → AbstractCall → Term → Term → List Var → Option (List TypedVariable)
read_after ds r k i q W = with_types ds (filter (is_left r k.call.targets i q) W)

-- Two calls.

abbrev pub returns : AbstractCall → List TypedVariable → AbstractCall → List TypedVariable → Returns
returns k W l U = record { owner = k.called.owner; left = outcome Left k W; right = outcome Right l U }

-- I holds, the arguments are the same, and so is all that is the module's own; and this leads to what is to hold after the calls.
abbrev pub before_calls : AbstractCall → List TypedVariable → AbstractCall → List TypedVariable → Term → Term → Term
before_calls k W l U i q =
    and_form (and_form (followed_by i (same_arguments k.call.arguments l.call.arguments)) (same_owner k.called.owner)) (after_calls (returns k W l U) i q)

-- the oracles keep I, and what stands before the calls leads to where they may be made
abbrev pub both_goals : Declarations → AbstractCall → AbstractCall → Term → Term → Term → Option (List TypedVariable) → Option (List TypedVariable) → Answer (List Goal)
both_goals ds k l i p q (Some W) (Some U) =
    behind (each_keep_both ds i k.called.oracles l.called.oracles)
    (equiv (body k.call.before) (body l.call.before) p (before_calls k W l U i q) ∷ [])
both_goals ds k l i p q _ _ = refusing Shape

-- the variables that are replaced, on a side, with which another one clashes
abbrev pub clashing_on : Exclusions → Side → AbstractCall → Term → Term → List Var → List Var
clashing_on xs r k i q W = clashing_after xs r k.call.targets (Glob k.called.owner ∷ W) i q

-- the least of them, on either side
abbrev pub clash_of_both : Exclusions → AbstractCall → AbstractCall → Term → Term → List Var → List Var → Option Var
clash_of_both xs k l i q W U = least (clashing_on xs Left k i q W ++ clashing_on xs Right l i q U)

-- What is kept, and what oracles write, has nothing that clashes with what is the module's own, and no variable is replaced with which
-- another one clashes.
abbrev pub by_writes : Declarations → AbstractCall → AbstractCall → Term → Term → Term → Option (List Var) → Option (List Var) → Answer (List Goal)
by_writes ds k l i p q (Some W) (Some U) =
    unless_clash (meeting_both (exclusions ds) k.called.owner i W U)
    (unless_clash (clash_of_both (exclusions ds) k l i q W U) (both_goals ds k l i p q (read_after ds Left k i q W) (read_after ds Right l i q U)))
by_writes ds k l i p q _ _ = refusing Shape

abbrev pub by_calls : Declarations → AbstractCall → AbstractCall → Term → Term → Term → Answer (List Goal)
by_calls ds k l i p q =
    if same_abstract k.called l.called
    then if_few k.call.targets (if_few l.call.targets (by_writes ds k l i p q (writes_of ds k.called.oracles) (writes_of ds l.called.oracles)))
    else refusing Shape

abbrev pub on_both : Declarations → Term → Term → Term → Option AbstractCall → Option AbstractCall → Answer (List Goal)
on_both ds i p q (Some k) (Some l) = by_calls ds k l i p q
on_both ds i p q _ _ = refusing Shape

-- One call.

-- I holds, and leads to what is to hold after the call.
abbrev pub before_call : AbstractCall → List TypedVariable → Term → Term → Term
before_call k W i q = and_form i (after_call AtLeast (outcome Own k W) i q)

abbrev pub one_goals : AbstractCall → Term → Term → Term → Option (List TypedVariable) → Answer (List Goal)
one_goals k i p q None = refusing Shape
one_goals k i p q (Some W) = given (each_keeps i k.called.oracles ++ hoare (body k.call.before) p (before_call k W i q) ∷ [])

abbrev pub by_written : Declarations → AbstractCall → Term → Term → Term → Option (List Var) → Answer (List Goal)
by_written ds k i p q None = refusing Shape
by_written ds k i p q (Some W) =
    unless_clash (meeting (exclusions ds) k.called.owner (variables_read Own i))
    (unless_clash (clash_after (exclusions ds) Own k.call.targets W i q) (one_goals k i p q (read_after ds Own k i q W)))

abbrev pub on_one : Declarations → Term → Term → Term → Option AbstractCall → Answer (List Goal)
on_one ds i p q None = refusing Shape
on_one ds i p q (Some k) = if_few k.call.targets (by_written ds k i p q (written ds k.call.procedure))

-- on two bodies, and on one
abbrev pub call_row : Declarations → Term → Row
call_row ds i (equiv (body is) (body js) p q) = on_both ds i p q (abstract_call ds (last_call is)) (abstract_call ds (last_call js))
call_row ds i (hoare (body is) p q) = on_one ds i p q (abstract_call ds (last_call is))
call_row ds i G = refusing Shape
