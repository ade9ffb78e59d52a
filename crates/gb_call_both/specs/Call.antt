-- `call`: the calls that end two bodies, or the call that ends one of them, by what their procedures are said to do.
use Rattle.std.specs.Prelude.{List, [], ◌∷◌, ◌++◌, Option, Some, None}
use Rattle.gb_core.specs.declared.var.Var.{Var}
use Rattle.gb_terms.specs.declared.decl.TypedName.{TypedName}
use Rattle.gb_terms.specs.declared.op.Side.TheVariants.{Left, Right}
use Rattle.gb_terms.specs.declared.term.Instr.{Instr}
use Rattle.gb_terms.specs.declared.term.Term.{Term}
use Rattle.gb_steps.specs.declared.step.Acts.{Acts}
use Rattle.gb_steps.specs.declared.step.Acts.TheVariants as on
use Rattle.gb_steps.specs.declared.step.Contract.{Contract}
use Rattle.gb_walk.specs.Clash.{Exclusions, least}
use Rattle.gb_core.specs.declared.refusal.Why.TheVariants.{Shape}
use Rattle.gb_goal.specs.Answers.{Answer}
use Rattle.gb_goal.specs.Answers.Answer.{given}
use Rattle.gb_goal.specs.Goal.{Goal}
use Rattle.gb_goal.specs.Goal.Code.{body, procedure}
use Rattle.gb_goal.specs.Goal.Goal.{equiv}
use Rattle.gb_goal.specs.Rows.{Row, refusing}
use Rattle.gb_goal.specs.Scope.{Declarations}
use Rattle.gb_typing.specs.Context.{Context, with_sides}
use Rattle.gb_typing.specs.Context as context
use Rattle.gb_typing.specs.Typing.{IsForm, before, after}
use Rattle.gb_typing.specs.Forms.{and_form}
use Rattle.gb_prog.specs.Writes.{TypedVariable}
use Rattle.gb_call.specs.Call.{Callee, IsContract, outcome, callee_of, left_of, if_few, unless_clash}
use Rattle.gb_call.specs.Call as one
use Rattle.gb_call.specs.LastCall.{LastCall, last_call}
use Rattle.gb_call.specs.Outcomes.{clashing_after}
use Rattle.gb_call.specs.Written.{with_types}
use Rattle.gb_call_both.specs.BothOutcomes.{of_both_arguments, after_both}
use Rattle.gb_call_both.specs.OneSide.{on_one_side}
use Rattle.gb_mods.specs.Exclusions.{exclusions}

-- The precondition holds of the arguments of both calls, and the postcondition leads to what is to hold after both.
abbrev pub before_both : Callee → List TypedVariable → Callee → List TypedVariable → Contract → Term → Term
before_both k W l V s q =
    and_form (of_both_arguments k.declared.params k.call.arguments l.declared.params l.call.arguments s.pre) (after_both (outcome Left k W) (outcome Right l V) s.post q)

-- the procedures do so, and what stands before the calls leads there
abbrev pub both_goals : Callee → List TypedVariable → Callee → List TypedVariable → Contract → Term → Term → List Goal
both_goals k W l V s p q =
    equiv (procedure k.call.procedure) (procedure l.call.procedure) s.pre s.post ∷ equiv (body k.call.before) (body l.call.before) p (before_both k W l V s q) ∷ []

abbrev pub by_both_globals : Callee → Callee → Contract → Term → Term → Option (List TypedVariable) → Option (List TypedVariable) → Answer (List Goal)
by_both_globals k l s p q (Some W) (Some V) = given (both_goals k W l V s p q)
by_both_globals k l s p q _ _ = refusing Shape

-- the least variable that is replaced, on either side, with which another one clashes
abbrev pub clash_after_both : Exclusions → Callee → Callee → Contract → Term → Option Var
clash_after_both es k l s q = least (clashing_after es Left k.call.targets k.written s.post q ++ clashing_after es Right l.call.targets l.written s.post q)

abbrev pub by_callees : Declarations → Contract → Term → Term → Callee → Callee → Answer (List Goal)
by_callees ds s p q k l =
    if_few k.call.targets (if_few l.call.targets (unless_clash (clash_after_both (exclusions ds) k l s q)
    (by_both_globals k l s p q (with_types ds (left_of Left k s q)) (with_types ds (left_of Right l s q)))))

abbrev pub of_callees : Declarations → Contract → Term → Term → Option Callee → Option Callee → Answer (List Goal)
of_callees ds s p q (Some k) (Some l) = by_callees ds s p q k l
of_callees ds s p q _ _ = refusing Shape

-- two bodies, or one of them
abbrev pub on_two : Declarations → Contract → Acts → List Instr → List Instr → Term → Term → Answer (List Goal)
on_two ds s on.All is js p q = of_callees ds s p q (callee_of ds (last_call is)) (callee_of ds (last_call js))
on_two ds s a is js p q = on_one_side ds None s a (equiv (body is) (body js) p q)

-- on two bodies, and on one
abbrev pub on_programs : Declarations → Contract → Acts → Row
on_programs ds s a (equiv (body is) (body js) p q) = on_two ds s a is js p q
on_programs ds s a G = one.on_programs ds s a G

abbrev pub call_row : Declarations → Contract → Row
call_row ds s = on_programs ds s s.acts

abbrev pub AreContracts : Context → Contract → Option LastCall → Option LastCall → Type 0
AreContracts c s (Some k) (Some l) =
    IsForm (with_sides c (before (context.procedure c k.procedure)) (before (context.procedure c l.procedure))) s.pre
    × IsForm (with_sides c (after (context.procedure c k.procedure)) (after (context.procedure c l.procedure))) s.post
AreContracts c s _ _ = Unit {0}

-- the same of the bodies on which the step acts
abbrev pub IsContractOf : Context → Contract → Acts → Option LastCall → Option LastCall → Type 0
IsContractOf c s on.All o u = AreContracts c s o u
IsContractOf c s on.Left o u = IsContract c s o
IsContractOf c s on.Right o u = IsContract c s u

-- a typed step: the precondition is said of the parameters of the called procedures, the postcondition of their results
abbrev pub IsTypedContract : Context → Contract → List TypedName → List TypedName → Goal → Type 0
IsTypedContract c s ls rs (equiv (body is) (body js) p q) = IsContractOf c s s.acts (last_call is) (last_call js)
IsTypedContract c s ls rs G = one.IsTypedContract c s ls rs G
