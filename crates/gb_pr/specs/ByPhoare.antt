-- `byphoare`: a probability and a bound, by a judgment of the procedure.
use Rattle.std.specs.Prelude.{List, [], ◌∷◌, Option, Some, None}
use Rattle.gb_core.specs.declared.refusal.Why.TheVariants.{Shape}
use Rattle.gb_terms.specs.declared.decl.Proc.{Proc}
use Rattle.gb_terms.specs.declared.decl.TypedName.{TypedName}
use Rattle.gb_terms.specs.declared.op.Side.TheVariants.{Own}
use Rattle.gb_walk.specs.Change.{term_changed}
use Rattle.gb_goal.specs.Answers.{Answer}
use Rattle.gb_goal.specs.Answers.Answer.{given}
use Rattle.gb_goal.specs.Goal.{Goal}
use Rattle.gb_goal.specs.Goal.Code.{procedure}
use Rattle.gb_goal.specs.Goal.Goal.{phoare, ambient}
use Rattle.gb_goal.specs.Rows.{Row, refusing}
use Rattle.gb_goal.specs.Scope.{Declarations, procedure_of}
use Rattle.gb_steps.specs.declared.step.Conditions.{Conditions}
use Rattle.gb_steps.specs.Chances.{Bounded, bounded_of}
use Rattle.gb_typing.specs.Context.{Context, with_own}
use Rattle.gb_typing.specs.Context as context
use Rattle.gb_typing.specs.Typing.{IsForm, before, after}
use Rattle.gb_typing.specs.Forms.{every}
use Rattle.gb_prog.specs.Likely.{as_likely}
use Rattle.gb_pr.specs.Started.{started}

-- The judgment that the procedure makes the postcondition as likely as the bound says; its precondition, of the arguments and the memory
-- of the probability; and that the postcondition makes the event as likely as the relation asks.
abbrev pub by_phoare_goals : List TypedName → Conditions → Bounded → List Goal
by_phoare_goals xs s b =
    phoare (procedure b.chance.procedure) b.rel s.pre s.post b.bound
    ∷ ambient (term_changed s.pre (started Own xs b.chance))
    ∷ ambient (every Own (as_likely b.rel b.chance.event s.post)) ∷ []

abbrev pub by_phoare_of : Conditions → Bounded → Option Proc → Answer (List Goal)
by_phoare_of s b (Some p) = given (by_phoare_goals p.params s b)
by_phoare_of s b None = refusing Shape

abbrev pub by_phoare_at : Declarations → Conditions → Option Bounded → Answer (List Goal)
by_phoare_at ds s (Some b) = by_phoare_of s b (procedure_of ds b.chance.procedure)
by_phoare_at ds s None = refusing Shape

abbrev pub by_phoare_row : Declarations → Conditions → Row
by_phoare_row ds s (ambient f) = by_phoare_at ds s (bounded_of f)
by_phoare_row ds s G = refusing Shape

-- the conditions are typed before and after the procedure
abbrev pub AreConditions : Context → Conditions → Option Bounded → Type 0
AreConditions c s None = Unit {0}
AreConditions c s (Some b) =
    IsForm (with_own c (before (context.procedure c b.chance.procedure))) s.pre
    × IsForm (with_own c (after (context.procedure c b.chance.procedure))) s.post
