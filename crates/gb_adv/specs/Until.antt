-- `call (_ : B, I)`: the calls that end two bodies, of one procedure of an abstract module, by what their oracles keep until an event has
-- come about. The event is read in the right memory, and the right oracles keep it.
use Rattle.std.specs.Prelude.{ℕ, true, ◌&&◌, if◌then◌else◌, List, [], ◌∷◌, ◌++◌, length, Option, Some, None}
use Rattle.gb_core.specs.declared.refusal.Why.TheVariants.{Shape}
use Rattle.gb_core.specs.declared.ty.Ty.TheVariants as ty
use Rattle.gb_core.specs.declared.var.Var.{Var}
use Rattle.gb_core.specs.declared.var.Var.TheVariants.{Glob}
use Rattle.gb_terms.specs.declared.decl.TypedName.{TypedName}
use Rattle.gb_terms.specs.declared.module.ProcRef.{ProcRef}
use Rattle.gb_terms.specs.declared.op.Side.TheVariants.{Left, Right}
use Rattle.gb_terms.specs.declared.term.Term.{Term}
use Rattle.gb_walk.specs.Change.{Changes, term_changed}
use Rattle.gb_steps.specs.declared.step.Until.{Until}
use Rattle.gb_goal.specs.Answers.{Answer}
use Rattle.gb_goal.specs.Answers.Answer.{given}
use Rattle.gb_goal.specs.Goal.{Goal}
use Rattle.gb_goal.specs.Goal.Code.{body, procedure}
use Rattle.gb_goal.specs.Goal.Goal.{equiv}
use Rattle.gb_goal.specs.Interfaces.{ProcedureType, procedure_type}
use Rattle.gb_goal.specs.Rows.{Row, refusing}
use Rattle.gb_goal.specs.Scope.{Declarations}
use Rattle.gb_mods.specs.Exclusions.{exclusions}
use Rattle.gb_typing.specs.Context.{Context}
use Rattle.gb_typing.specs.Forms.{and_form, implies_form, located, not_form}
use Rattle.gb_typing.specs.Sequents.{one, two}
use Rattle.gb_typing.specs.Typing.{IsForm}
use Rattle.gb_prog.specs.AllValues.{Located, for_all, to_bound_values}
use Rattle.gb_prog.specs.Writes.{TypedVariable}
use Rattle.gb_full.specs.Loss.{code_loss}
use Rattle.gb_call.specs.Call.{if_few, in_front, unless_clash}
use Rattle.gb_call.specs.LastCall.{last_call}
use Rattle.gb_call.specs.Outcomes.{Outcome}
use Rattle.gb_call_both.specs.BothOutcomes.{after_among, globals_of}
use Rattle.gb_call_both.specs.OneSide.{speaks, where_full}
use Rattle.gb_adv.specs.Abstract.{AbstractCall, AbstractProcedure, abstract_call, same_abstract}
use Rattle.gb_adv.specs.Call.{clash_of_both, outcome, read_after}
use Rattle.gb_adv.specs.Equations.{followed_by, same_arguments, same_owner, same_params, same_result}
use Rattle.gb_adv.specs.Oracles.{behind, keeps, meeting_both, writes_of}
use Rattle.gb_adv.specs.OwnNames.{own_names}

-- the event hasn't come about
abbrev pub not_yet : Until → Term
not_yet u = not_form (located Right u.event)

-- a form, as long as it hasn't
abbrev pub as_long : Until → Term → Term
as_long u f = implies_form (not_yet u) f

-- Oracles.

-- An oracle on either side: where the event hasn't come about and I holds, equal arguments give, as long as it still hasn't, equal
-- results, and I holds.
abbrev pub keep_until : Until → ProcRef → ProcedureType → ProcRef → ProcedureType → Goal
keep_until u o t p v =
    equiv (procedure o) (procedure p) (and_form (followed_by (not_yet u) (same_params t.params v.params)) u.kept)
    (as_long u (and_form (same_result t.result) u.kept))

-- .. and the right one keeps the event, in front of other goals
abbrev pub with_until : Until → ProcRef → Option ProcedureType → ProcRef → Option ProcedureType → Answer (List Goal) → Answer (List Goal)
with_until u o (Some t) p (Some v) a =
    if own_names t.params && own_names v.params then in_front (keep_until u o t p v) (in_front (keeps u.event p) a) else refusing Shape
with_until u o _ p _ a = refusing Shape

-- two goals for each oracle, in the order of the signature
abbrev pub each_keep_until : Declarations → Until → List ProcRef → List ProcRef → Answer (List Goal)
each_keep_until ds u (o ∷ os) (p ∷ ps) = with_until u o (procedure_type ds None o) p (procedure_type ds None p) (each_keep_until ds u os ps)
each_keep_until ds u _ _ = given []

-- Before the calls.

-- As long as the event hasn't come about, I holds, the arguments are the same, and so is all that is the module's own.
abbrev pub start_until : Until → AbstractCall → AbstractCall → Term
start_until u k l = as_long u (and_form (followed_by u.kept (same_arguments k.call.arguments l.call.arguments)) (same_owner k.called.owner))

-- After the procedures: as long as it hasn't, the results are the same, all that is the module's own is, and I holds.
abbrev pub end_until : Until → AbstractProcedure → Term
end_until u f = as_long u (and_form (and_form (same_result f.type.result) (same_owner f.owner)) u.kept)

-- all that is the module's own, in each memory, and what oracles write there
abbrev pub changed_in : List ℕ → Outcome → Outcome → List Located
changed_in a o p =
    (Left, record { variable = Glob a; ty = ty.Glob a }) ∷ (Right, record { variable = Glob a; ty = ty.Glob a }) ∷ globals_of o p

-- For all results, all values of what is the module's own in either memory, and all values of what the oracles write, left before right. A
-- quantifier for what oracles write stands only where its variable occurs; the others occur always.
abbrev pub after_until : Until → AbstractCall → List TypedVariable → AbstractCall → List TypedVariable → Term → Term
after_until u k W l V q =
    after_among true true (outcome Left k W) (outcome Right l V) (changed_in k.called.owner (outcome Left k W) (outcome Right l V)) (end_until u k.called) q

abbrev pub before_until : Until → AbstractCall → List TypedVariable → AbstractCall → List TypedVariable → Term → Term
before_until u k W l V q = and_form (start_until u k l) (after_until u k W l V q)

-- The rule.

-- the oracles do so, and what stands before the calls leads to where they may be made
abbrev pub until_goals : Declarations → Until → AbstractCall → AbstractCall → Term → Term → Option (List TypedVariable) → Option (List TypedVariable) → Answer (List Goal)
until_goals ds u k l p q (Some W) (Some V) =
    behind (each_keep_until ds u k.called.oracles l.called.oracles)
    (equiv (body k.call.before) (body l.call.before) p (before_until u k W l V q) ∷ [])
until_goals ds u k l p q _ _ = refusing Shape

-- No procedure loses weight: its oracles are full, so what comes after the event on either side has one total.
abbrev pub where_both_full : Declarations → AbstractCall → AbstractCall → Answer (List Goal) → Answer (List Goal)
where_both_full ds k l a = where_full (code_loss ds (procedure k.call.procedure)) (where_full (code_loss ds (procedure l.call.procedure)) a)

-- where the variables are read that this form says of both ends, and what is to hold after the calls
abbrev pub by_full : Declarations → Until → Term → AbstractCall → AbstractCall → Term → Term → List Var → List Var → Answer (List Goal)
by_full ds u said k l p q T U = where_both_full ds k l (until_goals ds u k l p q (read_after ds Left k said q T) (read_after ds Right l said q U))

-- Neither the event nor what is kept, nor what oracles write, has anything that clashes with what is the module's own, and no variable is
-- replaced with which another one clashes.
abbrev pub by_writes_until : Declarations → Until → AbstractCall → AbstractCall → Term → Term → Option (List Var) → Option (List Var) → Answer (List Goal)
by_writes_until ds u k l p q (Some T) (Some U) =
    unless_clash (meeting_both (exclusions ds) k.called.owner (as_long u u.kept) T U)
    (unless_clash (clash_of_both (exclusions ds) k l (end_until u k.called) q T U) (by_full ds u (end_until u k.called) k l p q T U))
by_writes_until ds u k l p q _ _ = refusing Shape

abbrev pub by_known : Declarations → Until → AbstractCall → AbstractCall → Term → Term → Answer (List Goal)
by_known ds u k l p q = by_writes_until ds u k l p q (writes_of ds k.called.oracles) (writes_of ds l.called.oracles)

-- A program of which the event speaks would hide the right memory in it.
abbrev pub by_calls_until : Declarations → Until → AbstractCall → AbstractCall → Term → Term → Answer (List Goal)
by_calls_until ds u k l p q =
    if same_abstract k.called l.called
    then if_few k.call.targets (if_few l.call.targets (if speaks u.event then refusing Shape else by_known ds u k l p q))
    else refusing Shape

abbrev pub on_both_until : Declarations → Until → Term → Term → Option AbstractCall → Option AbstractCall → Answer (List Goal)
on_both_until ds u p q (Some k) (Some l) = by_calls_until ds u k l p q
on_both_until ds u p q _ _ = refusing Shape

-- on two bodies
abbrev pub until_row : Declarations → Until → Row
until_row ds u (equiv (body is) (body js) p q) = on_both_until ds u p q (abstract_call ds (last_call is)) (abstract_call ds (last_call js))
until_row ds u G = refusing Shape

-- a typed step: the event reads one memory, what is kept reads two, and neither reads a local of the programs
abbrev pub IsTypedUntil : Context → Until → List TypedName → List TypedName → Goal → Type 0
IsTypedUntil c u ls rs (equiv a b p q) = IsForm (one c []) u.event × IsForm (two c [] []) u.kept
IsTypedUntil c u ls rs G = Unit {0}
