-- `byequiv`: two probabilities, by an equivalence of their procedures.
use Rattle.std.specs.Prelude.{List, [], ◌∷◌, ◌++◌, Option, Some, None}
use Rattle.gb_core.specs.declared.refusal.Why.TheVariants.{Shape}
use Rattle.gb_terms.specs.declared.decl.Proc.{Proc}
use Rattle.gb_terms.specs.declared.decl.TypedName.{TypedName}
use Rattle.gb_terms.specs.declared.op.Side.TheVariants.{Left, Right}
use Rattle.gb_terms.specs.declared.term.Term.{Term}
use Rattle.gb_walk.specs.Change.{term_changed}
use Rattle.gb_goal.specs.Answers.{Answer}
use Rattle.gb_goal.specs.Answers.Answer.{given}
use Rattle.gb_goal.specs.Goal.{Goal}
use Rattle.gb_goal.specs.Goal.Code.{procedure}
use Rattle.gb_goal.specs.Goal.Goal.{equiv, ambient}
use Rattle.gb_goal.specs.Rows.{Row, refusing}
use Rattle.gb_goal.specs.Scope.{Declarations, procedure_of}
use Rattle.gb_steps.specs.declared.step.Conditions.{Conditions}
use Rattle.gb_steps.specs.Chances.{Compared, chances_of}
use Rattle.gb_typing.specs.Context.{Context, with_sides}
use Rattle.gb_typing.specs.Context as context
use Rattle.gb_typing.specs.Typing.{IsForm, before, after}
use Rattle.gb_typing.specs.Forms.{every_pair, implies_form, located}
use Rattle.gb_prog.specs.Likely.{as_likely}
use Rattle.gb_pr.specs.Started.{started}

-- how likely one event is beside the other, each in the memory of its side
abbrev pub beside : Compared → Term
beside k = as_likely k.rel (located Left k.left.event) (located Right k.right.event)

-- The equivalence of both procedures; its precondition, of the arguments and the memories of both probabilities; and that the
-- postcondition relates the events as the comparison asks.
abbrev pub by_equiv_goals : List TypedName → List TypedName → Conditions → Compared → List Goal
by_equiv_goals xs ys s k =
    equiv (procedure k.left.procedure) (procedure k.right.procedure) s.pre s.post
    ∷ ambient (term_changed s.pre (started Left xs k.left ++ started Right ys k.right))
    ∷ ambient (every_pair (implies_form s.post (beside k))) ∷ []

abbrev pub by_equiv_of : Conditions → Compared → Option Proc → Option Proc → Answer (List Goal)
by_equiv_of s k (Some p) (Some q) = given (by_equiv_goals p.params q.params s k)
by_equiv_of s k p q = refusing Shape

abbrev pub by_equiv_at : Declarations → Conditions → Option Compared → Answer (List Goal)
by_equiv_at ds s (Some k) = by_equiv_of s k (procedure_of ds k.left.procedure) (procedure_of ds k.right.procedure)
by_equiv_at ds s None = refusing Shape

abbrev pub by_equiv_row : Declarations → Conditions → Row
by_equiv_row ds s (ambient f) = by_equiv_at ds s (chances_of f)
by_equiv_row ds s G = refusing Shape

-- the conditions are typed before and after both procedures
abbrev pub AreConditions : Context → Conditions → Option Compared → Type 0
AreConditions c s None = Unit {0}
AreConditions c s (Some k) =
    IsForm (with_sides c (before (context.procedure c k.left.procedure)) (before (context.procedure c k.right.procedure))) s.pre
    × IsForm (with_sides c (after (context.procedure c k.left.procedure)) (after (context.procedure c k.right.procedure))) s.post
