-- `conseq`: other conditions, to which the old ones lead and which lead to the old ones; and another bound of a probability.
use Rattle.std.specs.Prelude.{◌≡◌, List, [], ◌∷◌, ◌++◌, Option, Some, None}
use Rattle.gb_core.specs.declared.refusal.Why.TheVariants.{Shape}
use Rattle.gb_core.specs.declared.ty.Ty.TheVariants as ty
use Rattle.gb_terms.specs.declared.decl.TypedName.{TypedName}
use Rattle.gb_terms.specs.declared.op.Rel.{Rel}
use Rattle.gb_terms.specs.declared.op.Side.TheVariants.{Own}
use Rattle.gb_terms.specs.declared.term.Term.{Term}
use Rattle.gb_meaning.specs.Written.{type_of}
use Rattle.gb_steps.specs.declared.step.Weakened.{Weakened}
use Rattle.gb_goal.specs.Answers.{Answer}
use Rattle.gb_goal.specs.Answers.Answer.{given}
use Rattle.gb_goal.specs.Goal.{Code, Goal}
use Rattle.gb_goal.specs.Goal.Goal.{hoare, phoare, equiv, ambient}
use Rattle.gb_goal.specs.Rows.{Row, refusing}
use Rattle.gb_typing.specs.Context.{Context, with_own, with_sides}
use Rattle.gb_typing.specs.Typing.{IsTyped, IsForm}
use Rattle.gb_typing.specs.Forms.{every, every_pair, implies_form}
use Rattle.gb_typing.specs.Goals.{frame_before, frame_after}
use Rattle.gb_prog.specs.Compared.{compared}
use Rattle.gb_prog.specs.Likely.{as_likely}

-- what is said anew, or else what stood there
abbrev pub or_old : Option Term → Term → Term
or_old (Some f) old = f
or_old None old = old

-- one form leads to the other in every memory, and on every two
abbrev pub leads : Term → Term → Goal
leads p q = ambient (every Own (implies_form p q))

abbrev pub pair_leads : Term → Term → Goal
pair_leads p q = ambient (every_pair (implies_form p q))

-- a new bound stands so to the old one
abbrev pub bound_goals : Rel → Option Term → Term → List Goal
bound_goals r (Some c) b = ambient (compared r c b) ∷ []
bound_goals r None b = []

abbrev pub of_one : Weakened → Code → Term → Term → List Goal
of_one w a p q = leads p (or_old w.pre p) ∷ leads (or_old w.post q) q ∷ hoare a (or_old w.pre p) (or_old w.post q) ∷ []

abbrev pub of_chance : Weakened → Code → Rel → Term → Term → Term → List Goal
of_chance w a r p q b =
    bound_goals r w.bound b ++ (leads p (or_old w.pre p) ∷ ambient (every Own (as_likely r q (or_old w.post q)))
    ∷ phoare a r (or_old w.pre p) (or_old w.post q) (or_old w.bound b) ∷ [])

abbrev pub of_two : Weakened → Code → Code → Term → Term → List Goal
of_two w a b p q =
    pair_leads p (or_old w.pre p) ∷ pair_leads (or_old w.post q) q ∷ equiv a b (or_old w.pre p) (or_old w.post q) ∷ []

-- a bound is said of a probability alone
abbrev pub unless_bound : Option Term → List Goal → Answer (List Goal)
unless_bound None Gs = given Gs
unless_bound (Some b) Gs = refusing Shape

abbrev pub conseq_row : Weakened → Row
conseq_row w (hoare a p q) = unless_bound w.bound (of_one w a p q)
conseq_row w (phoare a r p q b) = given (of_chance w a r p q b)
conseq_row w (equiv a b p q) = unless_bound w.bound (of_two w a b p q)
conseq_row w (ambient f) = refusing Shape

abbrev pub IsCondition : Context → Option Term → Type 0
IsCondition c (Some f) = IsForm c f
IsCondition c None = Unit {0}

-- a real that reads no memory of the judgment
abbrev pub IsBound : Context → Option Term → Type 0
IsBound c (Some b) = IsTyped (with_own c None) b × (type_of b ≡ ty.Real)
IsBound c None = Unit {0}

-- a typed step: what is said anew reads what the old conditions and the old bound may read
abbrev pub IsTypedWeakened : Context → Weakened → List TypedName → List TypedName → Goal → Type 0
IsTypedWeakened c w ls rs (hoare a p q) =
    IsCondition (with_own c (frame_before c ls a)) w.pre × IsCondition (with_own c (frame_after c ls a)) w.post
IsTypedWeakened c w ls rs (phoare a r p q b) =
    IsCondition (with_own c (frame_before c ls a)) w.pre × IsCondition (with_own c (frame_after c ls a)) w.post × IsBound c w.bound
IsTypedWeakened c w ls rs (equiv a b p q) =
    IsCondition (with_sides c (frame_before c ls a) (frame_before c rs b)) w.pre
    × IsCondition (with_sides c (frame_after c ls a) (frame_after c rs b)) w.post
IsTypedWeakened c w ls rs (ambient f) = Unit {0}
