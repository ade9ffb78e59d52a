-- `call`: the call that ends a body, by what its procedure is said to do.
use Rattle.std.specs.Prelude.{if◌then◌else◌, nat_lt, List, [], ◌∷◌, length, filter, Option, Some, None}
use Rattle.gb_core.specs.declared.refusal.Why.TheVariants.{Shape, SideCondition}
use Rattle.gb_core.specs.declared.var.Var.{Var}
use Rattle.gb_terms.specs.declared.decl.Proc.{Proc}
use Rattle.gb_terms.specs.declared.decl.TypedName.{TypedName}
use Rattle.gb_terms.specs.declared.op.Rel.{Rel}
use Rattle.gb_terms.specs.declared.op.Rel.TheVariants.{AtLeast}
use Rattle.gb_terms.specs.declared.op.Side.{Side}
use Rattle.gb_terms.specs.declared.op.Side.TheVariants.{Own}
use Rattle.gb_terms.specs.declared.term.Term.{Term}
use Rattle.gb_steps.specs.declared.step.Acts.{Acts}
use Rattle.gb_steps.specs.declared.step.Acts.TheVariants as on
use Rattle.gb_steps.specs.declared.step.Contract.{Contract}
use Rattle.gb_goal.specs.Answers.{Answer}
use Rattle.gb_goal.specs.Answers.Answer.{given, refused}
use Rattle.gb_goal.specs.Goal.{Goal}
use Rattle.gb_goal.specs.Goal.Code.{body, procedure}
use Rattle.gb_goal.specs.Goal.Goal.{hoare, phoare}
use Rattle.gb_goal.specs.Rows.{Row, refusing}
use Rattle.gb_goal.specs.Scope.{Declarations, procedure_of}
use Rattle.gb_typing.specs.Context.{Context, with_own}
use Rattle.gb_typing.specs.Context as context
use Rattle.gb_typing.specs.Typing.{IsForm, before, after}
use Rattle.gb_typing.specs.Forms.{and_form}
use Rattle.gb_prog.specs.Writes.{TypedVariable}
use Rattle.gb_full.specs.Loss.{first_loss}
use Rattle.gb_full.specs.Lossless.{of_rest}
use Rattle.gb_call.specs.LastCall.{LastCall, call_seen, last_call}
use Rattle.gb_call.specs.Outcomes.{Outcome, of_arguments, after_call, is_left, clash_after}
use Rattle.gb_mods.specs.Written.{written}
use Rattle.gb_call.specs.Written.{with_types}
use Rattle.gb_call.specs.declared.call.Callee as seen
use Rattle.gb_call.specs.declared.call.Known.{Known}
use Rattle.gb_mods.specs.Exclusions.{exclusions}

-- a call, its procedure, and the globals that it writes
pub record Callee : Type 0 where
  pub call : LastCall
  pub declared : Proc
  pub written : List Var

-- the same, of references
abbrev pub callee_seen : seen.Callee → Callee
callee_seen k = record { call = call_seen k.call; declared = k.declared.now; written = k.written.now }

abbrev pub known_seen : Known → Callee
known_seen k = record { call = call_seen k.call; declared = k.declared; written = k.written }

-- what the call changes, where these globals are read after it
abbrev pub outcome : Side → Callee → List TypedVariable → Outcome
outcome r k W = record { side = r; targets = k.call.targets; result = k.declared.result; globals = W }

-- The precondition holds of the arguments, and the postcondition makes what is to hold after the call as likely as the relation asks.
abbrev pub before_call : Rel → Side → Callee → List TypedVariable → Contract → Term → Term
before_call l r k W s q =
    and_form (of_arguments r k.declared.params k.call.arguments s.pre) (after_call l (outcome r k W) s.post q)

-- the procedure does so, and what stands before the call leads there
abbrev pub call_goals : Callee → List TypedVariable → Contract → Term → Term → List Goal
call_goals k W s p q =
    hoare (procedure k.call.procedure) s.pre s.post ∷ hoare (body k.call.before) p (before_call AtLeast Own k W s q) ∷ []

-- a goal in front of others
abbrev pub in_front : Goal → Answer (List Goal) → Answer (List Goal)
in_front G (given Gs) = given (G ∷ Gs)
in_front G (refused why place) = refused why place

-- The same of a probability: wherever the rest ends, the call makes the event as likely as the relation asks. The rest, and what it calls, may lose weight
-- only where a probability that is less still stands so to the bound.
abbrev pub chance_goals : Declarations → Callee → List TypedVariable → Contract → Rel → Term → Term → Term → Answer (List Goal)
chance_goals ds k W s r p q b =
    in_front (phoare (procedure k.call.procedure) r s.pre s.post b)
    (of_rest (first_loss ds k.call.before) r b (hoare (body k.call.before) p (before_call r Own k W s q)))

abbrev pub by_globals : Callee → Contract → Term → Term → Option (List TypedVariable) → Answer (List Goal)
by_globals k s p q None = refusing Shape
by_globals k s p q (Some W) = given (call_goals k W s p q)

abbrev pub chances_by_globals : Declarations → Callee → Contract → Rel → Term → Term → Term → Option (List TypedVariable) → Answer (List Goal)
chances_by_globals ds k s r p q b None = refusing Shape
chances_by_globals ds k s r p q b (Some W) = chance_goals ds k W s r p q b

abbrev pub unless_clash : Option Var → Answer (List Goal) → Answer (List Goal)
unless_clash (Some x) a = refusing (SideCondition x)
unless_clash None a = a

-- the globals that are written and read after the call
abbrev pub left_of : Side → Callee → Contract → Term → List Var
left_of r k s q = filter (is_left r k.call.targets s.post q) k.written

-- a tuple has at most 8 parts
abbrev pub if_few : List Var → Answer (List Goal) → Answer (List Goal)
if_few xs a = if nat_lt (length xs) 9 then a else refusing Shape

abbrev pub by_callee : Declarations → Contract → Term → Term → Callee → Answer (List Goal)
by_callee ds s p q k =
    if_few k.call.targets (unless_clash (clash_after (exclusions ds) Own k.call.targets k.written s.post q) (by_globals k s p q (with_types ds (left_of Own k s q))))

abbrev pub chances_by_callee : Declarations → Contract → Rel → Term → Term → Term → Callee → Answer (List Goal)
chances_by_callee ds s r p q b k =
    if_few k.call.targets (unless_clash (clash_after (exclusions ds) Own k.call.targets k.written s.post q) (chances_by_globals ds k s r p q b (with_types ds (left_of Own k s q))))

abbrev pub callee : LastCall → Option Proc → Option (List Var) → Option Callee
callee k (Some a) (Some xs) = Some (record { call = k; declared = a; written = xs })
callee k _ _ = None

-- the callee of the call that ends a body
abbrev pub callee_of : Declarations → Option LastCall → Option Callee
callee_of ds None = None
callee_of ds (Some k) = callee k (procedure_of ds k.procedure) (written ds k.procedure)

abbrev pub of_callee : Declarations → Contract → Term → Term → Option Callee → Answer (List Goal)
of_callee ds s p q None = refusing Shape
of_callee ds s p q (Some k) = by_callee ds s p q k

abbrev pub chances_of_callee : Declarations → Contract → Rel → Term → Term → Term → Option Callee → Answer (List Goal)
chances_of_callee ds s r p q b None = refusing Shape
chances_of_callee ds s r p q b (Some k) = chances_by_callee ds s r p q b k

-- one body
abbrev pub on_programs : Declarations → Contract → Acts → Row
on_programs ds s on.All (hoare (body is) p q) = of_callee ds s p q (callee_of ds (last_call is))
on_programs ds s on.All (phoare (body is) r p q b) = chances_of_callee ds s r p q b (callee_of ds (last_call is))
on_programs ds s a G = refusing Shape

abbrev pub call_row : Declarations → Contract → Row
call_row ds s = on_programs ds s s.acts

abbrev pub IsContract : Context → Contract → Option LastCall → Type 0
IsContract c s None = Unit {0}
IsContract c s (Some k) =
    IsForm (with_own c (before (context.procedure c k.procedure))) s.pre × IsForm (with_own c (after (context.procedure c k.procedure))) s.post

-- a typed step: the precondition is said of the parameters of the called procedure, the postcondition of its result
abbrev pub IsTypedContract : Context → Contract → List TypedName → List TypedName → Goal → Type 0
IsTypedContract c s ls rs (hoare (body is) p q) = IsContract c s (last_call is)
IsTypedContract c s ls rs (phoare (body is) r p q b) = IsContract c s (last_call is)
IsTypedContract c s ls rs G = Unit {0}
