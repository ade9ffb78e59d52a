-- `call` by a judgment of the procedures that is known.
use Rattle.std.specs.Prelude.{◌≡◌, ◌⊎◌, pos, List, [], ◌∷◌, Some}
use Rattle.std.specs.Option.{option_map}
use Rattle.gb_core.specs.declared.place.Place.{Place}
use Rattle.gb_core.specs.declared.refusal.Why.TheVariants.{Shape}
use Rattle.gb_terms.specs.declared.module.ProcRef.{ProcRef}
use Rattle.gb_terms.specs.declared.op.Rel.{Rel}
use Rattle.gb_terms.specs.declared.op.Rel.TheVariants.{Equal}
use Rattle.gb_terms.specs.declared.term.Instr.{Instr}
use Rattle.gb_terms.specs.declared.term.Term.{Term}
use Rattle.gb_steps.specs.declared.step.Acts.{Acts}
use Rattle.gb_steps.specs.declared.step.Acts.TheVariants as on
use Rattle.gb_steps.specs.declared.step.Contract.{Contract}
use Rattle.gb_goal.specs.Answers.{Answer}
use Rattle.gb_goal.specs.Answers.Answer.{given, refused}
use Rattle.gb_goal.specs.Goal.{Goal, goal_of}
use Rattle.gb_goal.specs.Goal.Code.{body, procedure}
use Rattle.gb_goal.specs.Goal.Goal.{hoare, phoare, equiv, ambient}
use Rattle.gb_goal.specs.Rows.{Row, refusing, stepped}
use Rattle.gb_goal.specs.Scope.{Declarations}
use Rattle.gb_goal.specs.declared.sequent.Sequent.{Sequent}
use Rattle.gb_prog.specs.Compared.{literal}
use Rattle.gb_call.specs.LastCall.{LastCall, last_call}
use Rattle.gb_call_both.specs.Call.{call_row}
use Rattle.gb_call_both.specs.OneSide.{on_one_side}

-- a body ends with a call of this procedure
abbrev pub CallsLast : List Instr → ProcRef → Type 0
CallsLast is f = option_map (λ (k : LastCall). k.procedure) (last_call is) ≡ Some f

-- goals of which a judgment `hoare` of a procedure is: on a body that calls it last, on one of two bodies too
abbrev pub IsOfHoare : Acts → ProcRef → Goal → Type 0
IsOfHoare on.All f (hoare (body is) p q) = CallsLast is f
IsOfHoare on.Left f (equiv (body is) (body js) p q) = CallsLast is f
IsOfHoare on.Right f (equiv (body is) (body js) p q) = CallsLast js f
IsOfHoare a f G = ⊥

-- a probability that is 1
abbrev pub IsSure : Rel → Term → Type 0
IsSure r b = (r ≡ Equal) × (literal b ≡ Some (pos 1))

-- the same of `phoare`: on a goal with this relation and bound; on one of two bodies where it is with probability 1
abbrev pub IsOfPhoare : Acts → ProcRef → Rel → Term → Goal → Type 0
IsOfPhoare on.All f r b (phoare (body is) l p q d) = CallsLast is f × (r ≡ l) × (b ≡ d)
IsOfPhoare on.Left f r b (equiv (body is) (body js) p q) = CallsLast is f × IsSure r b
IsOfPhoare on.Right f r b (equiv (body is) (body js) p q) = CallsLast js f × IsSure r b
IsOfPhoare a f r b G = ⊥

-- the same of `equiv`, which is of two bodies
abbrev pub IsOfEquiv : Acts → ProcRef → ProcRef → Goal → Type 0
IsOfEquiv on.All f h (equiv (body is) (body js) p q) = CallsLast is f × CallsLast js h
IsOfEquiv a f h G = ⊥

-- The first judgment is one of the procedures that the bodies of the second one call last on which the rule acts; a probability is judged
-- with the same relation and bound, or is 1.
abbrev pub IsOfCalls : Acts → Goal → Goal → Type 0
IsOfCalls a (hoare (procedure f) p q) G = IsOfHoare a f G
IsOfCalls a (phoare (procedure f) r p q b) G = IsOfPhoare a f r b G
IsOfCalls a (equiv (procedure f) (procedure h) p q) G = IsOfEquiv a f h G
IsOfCalls a K G = ⊥

abbrev pub contract : Acts → Term → Term → Contract
contract a p q = record { acts = a; pre = p; post = q }

-- by the conditions of a judgment with a probability, which is 1 where the rule acts on one of two bodies
abbrev pub by_chances : Declarations → Acts → Term → Term → Term → Row
by_chances ds on.All p q b = call_row ds (contract on.All p q)
by_chances ds a p q b = on_one_side ds (Some b) (contract a p q) a

-- `call` by the conditions of a judgment
abbrev pub by_conditions : Declarations → Acts → Goal → Row
by_conditions ds a (hoare c p q) = call_row ds (contract a p q)
by_conditions ds a (phoare c r p q b) = by_chances ds a p q b
by_conditions ds a (equiv c d p q) = call_row ds (contract a p q)
by_conditions ds a (ambient f) = λ G. refusing Shape

abbrev pub behind : {A : Type 0} → List A → List A
behind [] = []
behind (x ∷ xs) = xs

-- all that is given but the first
abbrev pub behind_first : {A : Type 0} → Answer (List A) → Answer (List A)
behind_first (given xs) = given (behind xs)
behind_first (refused why place) = refused why place

-- What `call` by a judgment f that is known answers at a goal: what it answers by the conditions of f, but for its first goal, which
-- is f itself. Where f is no judgment of the called procedures it is refused.
abbrev pub IsAnswer : Declarations → Acts → Term → Place → Sequent → Answer (List Sequent) → Type 0
IsAnswer ds a f place q r =
    (IsOfCalls a (goal_of f) (goal_of q.conclusion) × (r ≡ behind_first (stepped (by_conditions ds a (goal_of f)) place q)))
    ⊎ ((IsOfCalls a (goal_of f) (goal_of q.conclusion) → ⊥) × (r ≡ refused Shape place))
