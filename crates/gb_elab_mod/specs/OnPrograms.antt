-- The typing of proof steps on programs: rules on the bodies and the procedures of which a goal speaks.
use Rattle.std.specs.Prelude.{ℕ, ◌-◌, Bool, true, false, if◌then◌else◌, List, [], ◌∷◌, length, take, drop, slice_get, Option, Some, None, bytes_eq, codes}
use Rattle.std.specs.Option.{option_map_or, option_zip}
use Rattle.gb_core.specs.declared.place.Place.{Place}
use Rattle.gb_core.specs.declared.refusal.Why.TheVariants.{TypeMismatch}
use Rattle.gb_core.specs.declared.ty.Ty.{Ty, out-Ty}
use Rattle.gb_core.specs.declared.ty.Ty.TheOpen as ty_layer
use Rattle.gb_core.specs.declared.ty.Ty.TheVariants.{Bool as bool_ty, Real}
use Rattle.gb_core.specs.SameTypes.{ty_eq}
use Rattle.gb_terms.specs.declared.decl.TypedName.{TypedName}
use Rattle.gb_terms.specs.declared.op.Side.{Side}
use Rattle.gb_terms.specs.declared.op.Side.TheVariants as side
use Rattle.gb_terms.specs.declared.term.Term.{Term, out-Term}
use Rattle.gb_terms.specs.declared.term.Head.{Head}
use Rattle.gb_terms.specs.declared.module.ProcRef.{ProcRef}
use Rattle.gb_terms.specs.declared.term.Head.TheVariants.{Phoare, Equiv, Sample, Call'}
use Rattle.gb_terms.specs.declared.term.Head.TheOpen as layer
use Rattle.gb_terms.specs.declared.term.Subject.{Subject, out-Subject}
use Rattle.gb_terms.specs.declared.term.Instr.{Instr}
use Rattle.gb_terms.specs.declared.term.Cmd.{Cmd}
use Rattle.gb_goal.specs.declared.sequent.Sequent.{Sequent}
use Rattle.gb_steps.specs.declared.step.Rule.{Rule}
use Rattle.gb_steps.specs.declared.step.Rule.TheVariants as rule
use Rattle.gb_steps.specs.declared.step.AbstractRule.TheVariants as abstract_rule
use Rattle.gb_steps.specs.declared.step.BodyRule.{BodyRule}
use Rattle.gb_steps.specs.declared.step.BodyRule.TheVariants as on_bodies
use Rattle.gb_steps.specs.declared.step.ChanceRule.TheVariants as with_chance
use Rattle.gb_steps.specs.declared.step.Acts.{Acts}
use Rattle.gb_steps.specs.declared.step.Acts.TheVariants as on
use Rattle.gb_steps.specs.declared.step.Cut.{Cut}
use Rattle.gb_steps.specs.declared.step.Cut.TheVariants as cut
use Rattle.gb_steps.specs.declared.step.Until.{Until}
use Rattle.gb_goal.specs.Goal.{Code, Goal, goal_of}
use Rattle.gb_goal.specs.Goal.Code.{body, procedure}
use Rattle.gb_goal.specs.Goal.Goal.{hoare, phoare, equiv}
use Rattle.gb_steps.specs.declared.step.ProbabilityRule.TheVariants as probability_rule
use Rattle.gb_steps.specs.declared.step.Conditions.{Conditions}
use Rattle.gb_steps.specs.Chances.{Bounded, Compared, bounded_of, chances_of}
use Rattle.gb_steps.specs.declared.step.RelationalRule.{RelationalRule}
use Rattle.gb_steps.specs.declared.step.RelationalRule.TheVariants as relational_rule
use Rattle.gb_goal.specs.Interfaces.{ProcedureType, procedure_type}
use Rattle.gb_goal.specs.Scope.{Declarations}
use Rattle.gb_script.specs.declared.head.Head.{Head as Kind}
use Rattle.gb_script.specs.declared.head.Head.TheVariants as text
use Rattle.gb_script.specs.declared.tree.Node.{Node}
use Rattle.gb_script.specs.Tree.{head_of, text_of, parts_of, place_of}
use Rattle.gb_goal.specs.Answers.{Answer, ◌>>=◌, not_built}
use Rattle.gb_goal.specs.Answers.Answer.{given, refused}
use Rattle.gb_names.specs.Environment.{Environment, ambient, of_function, relational, unary}
use Rattle.gb_names.specs.Judgments.{Named, functor_procedure, named_procedure, result_of}
use Rattle.gb_operators.specs.Literals.{place_inside}
use Rattle.gb_elab.specs.Forms.{elaborated, function}
use Rattle.gb_elab_mod.specs.Multiples.{position}
use Rattle.gb_elab_mod.specs.Occurring.{occurring}
use Rattle.gb_elab_mod.specs.Uses.{used}

abbrev pub of_subjects : layer.Subject-F Head Instr Subject Cmd Term → layer.Subject-F Head Instr Subject Cmd Term → Option (Cmd × Cmd)
of_subjects (layer.Body c) (layer.Body d) = Some (c, d)
of_subjects _ _ = None

abbrev pub of_head : Head → Option (Cmd × Cmd)
of_head (Equiv s t) = of_subjects (out-Subject s) (out-Subject t)
of_head _ = None

-- the bodies of an equivalence of two bodies
abbrev pub bodies : Term → Option (Cmd × Cmd)
bodies f = of_head (out-Term f).head

abbrev pub outcomes : ty_layer.Ty-F Ty → Option Ty
outcomes (ty_layer.Distr t) = Some t
outcomes _ = None

abbrev pub sampled : Option Instr → Option Ty
sampled (Some (Sample x d)) = outcomes (out-Ty (out-Term d).ty)
sampled _ = None

-- the type of the variable that a body's last statement samples
abbrev pub last_sampled : Cmd → Option Ty
last_sampled c = sampled (slice_get c.list (length c.list - 1))

-- functions from a type to a type
abbrev pub functions : Environment → List Node → Ty → Ty → Answer (List Term)
functions at [] from to = given []
functions at (f ∷ fs) from to = do
  t ← function f at from to
  ts ← functions at fs from to
  given (t ∷ ts)

-- functions between two types: the first leads there, the others back
unfoldable pub there_and_back : Environment → List Node → Ty → Ty → Answer (List Term)
there_and_back at [] from to = given []
there_and_back at (f ∷ fs) from to = do
  t ← function f at from to
  ts ← functions at fs to from
  given (t ∷ ts)

-- One function leads there and back, so its types are one.
abbrev pub one_type : List Node → Ty → Ty → Answer (Unit {0})
one_type (f ∷ []) a b = if ty_eq a b then given tt else refused TypeMismatch (place_inside f)
one_type _ a b = given tt

-- the functions of two bodies whose last samplings are of these types; they read the locals that occur in the goal
abbrev pub between : Declarations → Sequent → List Node → Cmd × Cmd → Ty × Ty → Answer (List Term)
between ds g fs c t =
    one_type fs t.0 t.1 >>= λ _. there_and_back
    (of_function ds g (occurring ds (out-Term g.conclusion).args side.Left c.0.list) (occurring ds (out-Term g.conclusion).args side.Right c.1.list))
    fs
    t.0
    t.1

abbrev pub of_bodies : Declarations → Sequent → List Node → Cmd × Cmd → Answer (List Term)
of_bodies ds g fs c = option_map_or (between ds g fs c) (option_zip (last_sampled c.0) (last_sampled c.1)) (given [])

-- The typed functions of `rnd`. Where the goal gives them no types they are left out.
unfoldable pub couplings : Declarations → Sequent → List Node → Answer (List Term)
couplings ds g fs = option_map_or (of_bodies ds g fs) (bodies g.conclusion) (given [])

-- whether a form with this head is a judgment with a probability
abbrev pub judges_chance : Head → Bool
judges_chance (Phoare s r) = true
judges_chance _ = false

-- `rnd` with its functions, at a judgment with a probability or at another goal; those that have no types at a goal don't fit it
abbrev pub coupling_rule : Bool → List Node → List Term → Rule
coupling_rule true [] ts = rule.Chance with_chance.Rnd
coupling_rule b (f ∷ fs) [] = rule.OnBodies on_bodies.Unfit
coupling_rule b fs ts = rule.Relational (relational_rule.Rnd ts)

abbrev pub is_apply : Kind → Bool
is_apply text.Apply = true
is_apply _ = false

-- the functions of `rnd`: none, one, or two, which stand as a function and its argument
abbrev pub functions_of : List Node → List Node
functions_of (f ∷ []) = if is_apply (head_of f) then parts_of f else f ∷ []
functions_of fs = fs

-- the programs on which a step acts
abbrev pub acts : List Node → Acts
acts [] = on.All
acts (n ∷ ns) = if bytes_eq (text_of n) (codes "1") then on.Left else on.Right

-- `rnd` on the programs on which a step acts; a function is one between samplings of both, and fits no side
unfoldable pub drawing_rule : Declarations → Sequent → Acts → List Node → Answer Rule
drawing_rule ds g on.All fs = do
  ts ← couplings ds g fs
  given (coupling_rule (judges_chance (out-Term g.conclusion).head) fs ts)
drawing_rule ds g a [] = given (rule.Relational (relational_rule.Drawn a))
drawing_rule ds g a (f ∷ fs) = given (rule.OnBodies on_bodies.Unfit)

-- a rule that acts on all programs of a goal alone
abbrev pub on_all : Acts → BodyRule → BodyRule
on_all on.All r = r
on_all a r = on_bodies.Unfit

-- a rule without other arguments
abbrev pub plain_rule : List ℕ → Acts → Place → Answer BodyRule
plain_rule x a p =
    if bytes_eq x (codes "skip") then given (on_all a on_bodies.Skip)
    else if bytes_eq x (codes "if") then given (on_bodies.If a)
    else if bytes_eq x (codes "wp") then given (on_bodies.Wp a) else not_built p

-- the positions of a cut, in one body or in two
abbrev pub cut_of : Node → List Node → Cut
cut_of n [] = cut.One (position n)
cut_of n (m ∷ ms) = cut.Two (position n) (position m)

-- A cut of the bodies of a goal, with the form between, which reads the locals that occur in the goal. Where the goal has no such
-- bodies the form has no type, and the rule refuses the goal.
unfoldable pub cut_rule : Declarations → Sequent → Cut → Node → Goal → Answer BodyRule
cut_rule ds s (cut.One k) r (hoare (body is) p q) = do
  f ← elaborated r (unary ds s (occurring ds (p ∷ q ∷ []) side.Own is)) [] (Some bool_ty)
  given (on_bodies.Seq (cut.One k) f)
cut_rule ds s (cut.Two k l) r (equiv (body is) (body js) p q) = do
  f ← elaborated r (relational ds s (occurring ds (p ∷ q ∷ []) side.Left is) (occurring ds (p ∷ q ∷ []) side.Right js)) [] (Some bool_ty)
  given (on_bodies.Seq (cut.Two k l) f)
cut_rule ds s k r G = given on_bodies.Unfit

-- the same of a step that acts on these programs
abbrev pub seq_rule : Declarations → Sequent → Acts → Cut → Node → Answer BodyRule
seq_rule ds s on.All k r = cut_rule ds s k r (goal_of s.conclusion)
seq_rule ds s a k r = given on_bodies.Unfit

-- a rule on programs
abbrev pub of_bodies_rule : Answer BodyRule → Answer Rule
of_bodies_rule a = a >>= λ r. given (rule.OnBodies r)

-- a rule on judgments with a probability, which speak of one program
abbrev pub chance_rule : Acts → Rule
chance_rule on.All = rule.Chance with_chance.Hoare
chance_rule a = rule.OnBodies on_bodies.Unfit

-- a rule on equivalences, which acts on both programs
abbrev pub both_rule : RelationalRule → Acts → Rule
both_rule r on.All = rule.Relational r
both_rule r a = rule.OnBodies on_bodies.Unfit

-- a rule on programs, by its name alone
abbrev pub named_rule : List ℕ → Acts → Place → Answer Rule
named_rule x a p =
    if bytes_eq x (codes "hoare") then given (chance_rule a)
    else if bytes_eq x (codes "symmetry") then given (both_rule relational_rule.Symmetry a)
    else if bytes_eq x (codes "sim") then given (both_rule relational_rule.Sim a) else of_bodies_rule (plain_rule x a p)

-- A form that a step says of the bodies of a judgment, which reads the locals that occur in the goal. Other goals give it no type.
unfoldable pub said_of_bodies : Declarations → Sequent → Node → Goal → Answer (Option Term)
said_of_bodies ds s r (hoare (body is) p q) = do
  f ← elaborated r (unary ds s (occurring ds (p ∷ q ∷ []) side.Own is)) [] (Some bool_ty)
  given (Some f)
said_of_bodies ds s r (phoare (body is) o p q b) = do
  f ← elaborated r (unary ds s (occurring ds (p ∷ q ∷ []) side.Own is)) [] (Some bool_ty)
  given (Some f)
said_of_bodies ds s r (equiv (body is) (body js) p q) = do
  f ← elaborated r (relational ds s (occurring ds (p ∷ q ∷ []) side.Left is) (occurring ds (p ∷ q ∷ []) side.Right js)) [] (Some bool_ty)
  given (Some f)
said_of_bodies ds s r G = given None

abbrev pub case_by : Option Term → BodyRule
case_by (Some f) = on_bodies.Case f
case_by None = on_bodies.Unfit

-- the form of `case` at a judgment of bodies
abbrev pub case_of_bodies : Declarations → Sequent → Node → Goal → Answer BodyRule
case_of_bodies ds s r G = said_of_bodies ds s r G >>= λ f. given (case_by f)

abbrev pub kept_by : Acts → Option Term → Rule
kept_by a (Some f) = rule.While (record { acts = a; kept = f })
kept_by a None = rule.OnBodies on_bodies.Unfit

-- what each turn keeps of the loops that end the bodies of a judgment
abbrev pub while_rule : Declarations → Sequent → Acts → Node → Answer Rule
while_rule ds s a r = said_of_bodies ds s r (goal_of s.conclusion) >>= λ f. given (kept_by a f)

-- the locals of a memory before what a judgment speaks of, and after it: those that occur in the judgment, where it is a body, or the
-- parameters of a procedure and its result
abbrev pub params_if : Option ProcedureType → List TypedName
params_if None = []
params_if (Some f) = f.params

abbrev pub result_if : Option ProcedureType → List TypedName
result_if None = []
result_if (Some f) = result_of f

abbrev pub locals_before : Declarations → Term → Term → Side → Code → List TypedName
locals_before ds p q r (body is) = occurring ds (p ∷ q ∷ []) r is
locals_before ds p q r (procedure f) = params_if (procedure_type ds None f)

abbrev pub locals_after : Declarations → Term → Term → Side → Code → List TypedName
locals_after ds p q r (body is) = occurring ds (p ∷ q ∷ []) r is
locals_after ds p q r (procedure f) = result_if (procedure_type ds None f)

-- a term of this type, if one is written
abbrev pub term_if : Environment → Ty → List Node → Answer (Option Term)
term_if at t [] = given None
term_if at t (n ∷ ns) = do
  f ← elaborated n at [] (Some t)
  given (Some f)

-- what is written of a precondition, a postcondition and a bound, each where it stands
abbrev pub said_anew : Environment → Environment → Environment → List Node → List Node → List Node → Answer BodyRule
said_anew before after around pre post bound = do
  f ← term_if before bool_ty pre
  h ← term_if after bool_ty post
  b ← term_if around Real bound
  given (on_bodies.Conseq (record { pre = f; post = h; bound = b }))

-- The conditions and the bound of `conseq` at a judgment, which read the locals before and after it; a bound reads none. Other goals
-- give them no types.
unfoldable pub conseq_of : Declarations → Sequent → Goal → List Node → List Node → List Node → Answer BodyRule
conseq_of ds s (hoare a p q) f h b =
    said_anew (unary ds s (locals_before ds p q side.Own a)) (unary ds s (locals_after ds p q side.Own a)) (ambient ds s) f h b
conseq_of ds s (phoare a r p q c) f h b =
    said_anew (unary ds s (locals_before ds p q side.Own a)) (unary ds s (locals_after ds p q side.Own a)) (ambient ds s) f h b
conseq_of ds s (equiv a c p q) f h b =
    said_anew (relational ds s (locals_before ds p q side.Left a) (locals_before ds p q side.Right c))
    (relational ds s (locals_after ds p q side.Left a) (locals_after ds p q side.Right c)) (ambient ds s) f h b
conseq_of ds s G f h b = given on_bodies.Unfit

-- the same of a step that acts on these programs
abbrev pub conseq_rule : Declarations → Sequent → Acts → List Node → List Node → List Node → Answer BodyRule
conseq_rule ds s on.All f h b = conseq_of ds s (goal_of s.conclusion) f h b
conseq_rule ds s a f h b = given on_bodies.Unfit

-- the procedure that the last statement of a body calls
abbrev pub procedure_called : Instr → Option ProcRef
procedure_called (Call' xs p n es) = Some p
procedure_called i = None

abbrev pub last_procedure : List Instr → Option ProcRef
last_procedure [] = None
last_procedure (i ∷ []) = procedure_called i
last_procedure (i ∷ j ∷ is) = last_procedure (j ∷ is)

-- what a called procedure is said to do: a precondition reads its parameters, and a postcondition its result
unfoldable pub contract_of : Declarations → Sequent → Acts → Node → Node → Option ProcRef → Answer Rule
contract_of ds s a pre post None = given (rule.OnBodies on_bodies.Unfit)
contract_of ds s a pre post (Some r) = do
  f ← elaborated pre (unary ds s (params_if (procedure_type ds None r))) [] (Some bool_ty)
  h ← elaborated post (unary ds s (result_if (procedure_type ds None r))) [] (Some bool_ty)
  given (rule.Call (record { acts = a; pre = f; post = h }))

-- what two called procedures are said to do: a precondition reads the parameters of both, and a postcondition both results
unfoldable pub contract_of_both : Declarations → Sequent → Acts → Node → Node → Option ProcRef → Option ProcRef → Answer Rule
contract_of_both ds s a pre post (Some r) (Some q) = do
  f ← elaborated pre (relational ds s (params_if (procedure_type ds None r)) (params_if (procedure_type ds None q))) [] (Some bool_ty)
  h ← elaborated post (relational ds s (result_if (procedure_type ds None r)) (result_if (procedure_type ds None q))) [] (Some bool_ty)
  given (rule.Call (record { acts = a; pre = f; post = h }))
contract_of_both ds s a pre post _ _ = given (rule.OnBodies on_bodies.Unfit)

-- the same of two bodies, or of the one of them on which the step acts
abbrev pub contract_on : Declarations → Sequent → Acts → Node → Node → List Instr → List Instr → Answer Rule
contract_on ds s on.All pre post is js = contract_of_both ds s on.All pre post (last_procedure is) (last_procedure js)
contract_on ds s on.Left pre post is js = contract_of ds s on.Left pre post (last_procedure is)
contract_on ds s on.Right pre post is js = contract_of ds s on.Right pre post (last_procedure js)

-- the same at a judgment on a body that ends with a call, or on two bodies; other goals give the forms no types
abbrev pub contract_at : Declarations → Sequent → Acts → Node → Node → Goal → Answer Rule
contract_at ds s a pre post (hoare (body is) p q) = contract_of ds s a pre post (last_procedure is)
contract_at ds s a pre post (phoare (body is) r p q b) = contract_of ds s a pre post (last_procedure is)
contract_at ds s a pre post (equiv (body is) (body js) p q) = contract_on ds s a pre post is js
contract_at ds s a pre post G = given (rule.OnBodies on_bodies.Unfit)

-- What a step says that oracles keep. It reads no local of a program; goals that are no judgments without a probability give it no type.
unfoldable pub kept_of : Declarations → Sequent → Node → Goal → Answer (Option Term)
kept_of ds s r (hoare a p q) = do
  f ← elaborated r (unary ds s []) [] (Some bool_ty)
  given (Some f)
kept_of ds s r (equiv a b p q) = do
  f ← elaborated r (relational ds s [] []) [] (Some bool_ty)
  given (Some f)
kept_of ds s r G = given None

-- the same of a step that acts on these programs: on one of two none is kept
abbrev pub kept_on : Declarations → Sequent → Acts → Node → Answer (Option Term)
kept_on ds s on.All r = kept_of ds s r (goal_of s.conclusion)
kept_on ds s a r = given None

abbrev pub calls_by : Option Term → Rule
calls_by (Some f) = rule.Abstract (abstract_rule.Call f)
calls_by None = rule.OnBodies on_bodies.Unfit

abbrev pub procedures_by : Option Term → Rule
procedures_by (Some f) = rule.Abstract (abstract_rule.Proc f)
procedures_by None = rule.OnBodies on_bodies.Unfit

-- What a step says that oracles keep until an event has come about: the event reads one memory, what is kept reads two, and neither reads a
-- local of a program. Goals that don't speak of two programs give them no type.
unfoldable pub until_of : Declarations → Sequent → Node → Node → Goal → Answer (Option Until)
until_of ds s m r (equiv a b p q) = do
  e ← elaborated m (unary ds s []) [] (Some bool_ty)
  f ← elaborated r (relational ds s [] []) [] (Some bool_ty)
  given (Some (record { event = e; kept = f }))
until_of ds s m r G = given None

-- the same of a step that acts on these programs: on one of two none is
abbrev pub until_on : Declarations → Sequent → Acts → Node → Node → Answer (Option Until)
until_on ds s on.All m r = until_of ds s m r (goal_of s.conclusion)
until_on ds s a m r = given None

abbrev pub calls_until : Option Until → Rule
calls_until (Some u) = rule.Abstract (abstract_rule.CallUntil u)
calls_until None = rule.OnBodies on_bodies.Unfit

-- `proc`: into the procedures of a judgment, or, of abstract modules, by what their oracles keep
abbrev pub entering_rule : Declarations → Sequent → Acts → List Node → Place → Answer Rule
entering_rule ds s a [] p = given (rule.OnBodies (on_all a on_bodies.Proc))
entering_rule ds s a (r ∷ []) p = kept_on ds s a r >>= λ f. given (procedures_by f)
entering_rule ds s a rs p = not_built p

-- The rules on calls are built by what the procedures are said to do, by what the oracles of abstract ones keep, also until an event has come
-- about, and by a judgment that is known.
abbrev pub call_rule : Declarations → Sequent → Acts → Kind → List Node → Place → Answer Rule
call_rule ds s a text.CallContract (pre ∷ post ∷ []) p = contract_at ds s a pre post (goal_of s.conclusion)
call_rule ds s a text.CallInvariant (r ∷ []) p = kept_on ds s a r >>= λ f. given (calls_by f)
call_rule ds s a text.CallUpto (m ∷ r ∷ []) p = until_on ds s a m r >>= λ u. given (calls_until u)
call_rule ds s a text.CallLemma (t ∷ []) p = do
  f ← used ds s t
  given (rule.CallKnown a f)
call_rule ds s a k ns p = not_built p

-- what relates two procedures: a form over the parameters of both, and one over both results
unfoldable pub related : Declarations → Sequent → Node → Node → ProcRef → ProcRef → Answer (Term × Term)
related ds s pre post r q = do
  f ← elaborated pre (relational ds s (params_if (procedure_type ds None r)) (params_if (procedure_type ds None q))) [] (Some bool_ty)
  h ← elaborated post (relational ds s (result_if (procedure_type ds None r)) (result_if (procedure_type ds None q))) [] (Some bool_ty)
  given (f, h)

-- what is said before and after one procedure: a form over its parameters, and one over its result
unfoldable pub said_around : Declarations → Sequent → Node → Node → ProcRef → Answer (Term × Term)
said_around ds s pre post r = do
  f ← elaborated pre (unary ds s (params_if (procedure_type ds None r))) [] (Some bool_ty)
  h ← elaborated post (unary ds s (result_if (procedure_type ds None r))) [] (Some bool_ty)
  given (f, h)

abbrev pub conditions : Term × Term → Conditions
conditions z = record { pre = z.0; post = z.1 }

-- the conditions of `byphoare`, of the procedure whose probability the conclusion compares with a bound; other conclusions give them no types
abbrev pub by_phoare_rule : Declarations → Sequent → Node → Node → Option Bounded → Answer Rule
by_phoare_rule ds s pre post (Some b) = said_around ds s pre post b.chance.procedure >>= λ z. given (rule.Probability (probability_rule.ByPhoare (conditions z)))
by_phoare_rule ds s pre post None = given (rule.OnBodies on_bodies.Unfit)

-- those of `byequiv`, of both procedures whose probabilities the conclusion compares
abbrev pub by_equiv_rule : Declarations → Sequent → Node → Node → Option Compared → Answer Rule
by_equiv_rule ds s pre post (Some k) =
    related ds s pre post k.left.procedure k.right.procedure >>= λ z. given (rule.Probability (probability_rule.ByEquiv (conditions z)))
by_equiv_rule ds s pre post None = given (rule.OnBodies on_bodies.Unfit)

-- a step that goes from probabilities to a judgment, by its name
abbrev pub by_rule : Declarations → Sequent → List ℕ → Node → Node → Place → Answer Rule
by_rule ds s x pre post p =
    if bytes_eq x (codes "byphoare") then by_phoare_rule ds s pre post (bounded_of s.conclusion)
    else if bytes_eq x (codes "byequiv") then by_equiv_rule ds s pre post (chances_of s.conclusion) else not_built p

-- a procedure between two others, what relates the left one to it, and what relates it to the right one
unfoldable pub between_of : Declarations → Sequent → Named → Node → Node → Node → Node → ProcRef → ProcRef → Answer Rule
between_of ds s m pre post later_pre later_post r q = do
  l ← related ds s pre post r m.0
  k ← related ds s later_pre later_post m.0 q
  given (rule.Relational (relational_rule.Transitivity (record { procedure = m.0; left_pre = l.0; left_post = l.1; right_pre = k.0; right_post = k.1 })))

-- the two procedures that a goal relates
abbrev pub procedures_of : Goal → Option (ProcRef × ProcRef)
procedures_of (equiv (procedure r) (procedure q) a b) = Some (r, q)
procedures_of G = None

-- two contracts: a precondition and a postcondition each
abbrev pub Contracts : Type 0
Contracts = (Node × Node) × (Node × Node)

abbrev pub contracts : List Node → List Node → Option Contracts
contracts (pre ∷ post ∷ []) (later_pre ∷ later_post ∷ []) = Some ((pre, post), (later_pre, later_post))
contracts _ _ = None

-- a procedure that is named between the two that the goal relates, by two contracts; other goals give the forms no types
abbrev pub between_by : Declarations → Sequent → Answer Named → Option Contracts → Option (ProcRef × ProcRef) → Place → Answer Rule
between_by ds s a None o p = not_built p
between_by ds s a (Some c) None p = given (rule.OnBodies on_bodies.Unfit)
between_by ds s a (Some c) (Some z) p = a >>= λ m. between_of ds s m c.0.0 c.0.1 c.1.0 c.1.1 z.0 z.1

-- the same by the words of the name and by the contracts, of which the second stands in a part of its own
abbrev pub between_words : Declarations → Sequent → List Node → List Node → Place → Answer Rule
between_words ds s (x ∷ xs) (pre ∷ post ∷ n ∷ []) p =
    between_by ds s (named_procedure (ambient ds s) [] text.ProcedurePath (x ∷ xs) (place_of x)) (contracts (pre ∷ post ∷ []) (parts_of n))
    (procedures_of (goal_of s.conclusion)) p
between_words ds s xs ns p = not_built p

-- .. of a functor with arguments, of which the first stands in a part of its own
abbrev pub between_functor : Declarations → Sequent → List Node → List Node → Place → Answer Rule
between_functor ds s (x ∷ xs) (m ∷ ms ∷ f ∷ c ∷ d ∷ []) p =
    between_by ds s (functor_procedure (ambient ds s) [] x xs (m ∷ parts_of ms) f (place_of x)) (contracts (parts_of c) (parts_of d))
    (procedures_of (goal_of s.conclusion)) p
between_functor ds s xs ns p = not_built p

-- The last parts of `transitivity` are its contracts, behind the arguments of a functor and the procedure's name where there are any. All
-- those before them are the words of a name.
abbrev pub between_at : Declarations → Sequent → Kind → List Node → Place → Answer Rule
between_at ds s text.PlainTransitivity ns p = between_words ds s (take (length ns - 3) ns) (drop (length ns - 3) ns) p
between_at ds s text.FunctorTransitivity ns p = between_functor ds s (take (length ns - 5) ns) (drop (length ns - 5) ns) p
between_at ds s k ns p = not_built p

-- `transitivity` acts on both programs
abbrev pub transitive_rule : Declarations → Sequent → Acts → Kind → List Node → Place → Answer Rule
transitive_rule ds s on.All k ns p = between_at ds s k ns p
transitive_rule ds s a k ns p = given (rule.OnBodies on_bodies.Unfit)
