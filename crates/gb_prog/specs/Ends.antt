-- Goals whose loops end, and rules that are sound there.
use Rattle.std.specs.Prelude.{◌≡◌, List, Option, Some, None}
use Rattle.std.specs.List.{AllByRecursion}
use Rattle.gb_terms.specs.declared.decl.Proc.{Proc as Declared}
use Rattle.gb_terms.specs.declared.decl.TypedName.{TypedName}
use Rattle.gb_terms.specs.declared.module.ProcRef.{ProcRef}
use Rattle.gb_goal.specs.Answers.Answer.{given}
use Rattle.gb_goal.specs.Goal.{Code, Goal, goal_of}
use Rattle.gb_goal.specs.Goal.Code.{body, procedure}
use Rattle.gb_goal.specs.Goal.Goal.{hoare, phoare, equiv, ambient}
use Rattle.gb_goal.specs.Rows.{Row}
use Rattle.gb_goal.specs.declared.sequent.Sequent.{Sequent}
use Rattle.gb_steps.specs.declared.step.BodyRule.TheVariants.{Proc}
use Rattle.gb_steps.specs.declared.step.Rule.{Rule}
use Rattle.gb_steps.specs.declared.step.Rule.TheVariants.{OnBodies}
use Rattle.gb_meaning.specs.Commands.{statements}
use Rattle.gb_meaning.specs.Judgments.{Judge, IsFair}
use Rattle.gb_meaning.specs.Program.{Routine}
use Rattle.gb_meaning.specs.Setting.{Setting}
use Rattle.gb_meaning.specs.State.{State}
use Rattle.gb_meaning.specs.Declared.{Declarations}
use Rattle.gb_meaning.specs.Holds.{InEachSetting, LoopsAreGood}
use Rattle.gb_meaning.specs.Naming.{EachCallOf}
use Rattle.gb_goal.specs.Scope as scope
use Rattle.gb_goal.specs.Scope.{procedure_of}
use Rattle.gb_typing.specs.Context.{Context}
use Rattle.gb_typing.specs.Fits.{IsSettingOf, IsStateOf}
use Rattle.gb_typing.specs.Goals.{IsGoalOver, IsTypedGoal}
use Rattle.gb_typing.specs.Meaning.{Stands}
use Rattle.gb_typing.specs.Rules.{IsSettingOver, outermost}
use Rattle.gb_prog.specs.Loops.{EachLoopOfIsGood}

-- each loop of a body itself is good; those of the procedures that it calls aren't asked for
abbrev pub BodyEnds : Setting → Code → Type 0
BodyEnds g (body is) = LoopsAreGood g (statements g is)
BodyEnds g (procedure p) = Unit {0}

-- each loop of the bodies of a goal is good
abbrev pub LoopsEnd : Setting → Goal → Type 0
LoopsEnd g (hoare a p q) = BodyEnds g a
LoopsEnd g (phoare a r p q b) = BodyEnds g a
LoopsEnd g (equiv a b p q) = BodyEnds g a × BodyEnds g b
LoopsEnd g (ambient f) = Unit {0}

-- In each model, and for all programs around, each loop of the bodies of the conclusion is good.
abbrev pub SequentEnds : Declarations → Sequent → Type 0
SequentEnds ds q = InEachSetting ds q (λ g. LoopsEnd g (goal_of q.conclusion))

-- In the settings of declarations in which the loops of a goal end, those of each subgoal end.
abbrev pub KeepsEnds : Declarations → List Goal → Goal → Type 0
KeepsEnds ds Gs G = (g : Setting) → IsSettingOver ds g → LoopsEnd g G → AllByRecursion (LoopsEnd g) Gs

-- each loop of a declared procedure itself is good
abbrev pub ProcedureEnds : scope.Declarations → Setting → Code → Type 0
ProcedureEnds ds g (body is) = Unit {0}
ProcedureEnds ds g (procedure p) = (a : Declared) → procedure_of ds p ≡ Some a → LoopsAreGood g (statements g a.body.list)

-- the same of the procedures of a goal
abbrev pub ProceduresEnd : scope.Declarations → Setting → Goal → Type 0
ProceduresEnd ds g (hoare a p q) = ProcedureEnds ds g a
ProceduresEnd ds g (phoare a r p q b) = ProcedureEnds ds g a
ProceduresEnd ds g (equiv a b p q) = ProcedureEnds ds g a × ProcedureEnds ds g b
ProceduresEnd ds g (ambient f) = Unit {0}

-- what has to be known of a goal besides, where a rule goes from procedures to their bodies
abbrev pub Entered : scope.Declarations → Setting → Rule → Goal → Type 0
Entered ds g (OnBodies Proc) G = ProceduresEnd ds g G
Entered ds g r G = Unit {0}

-- In those that fit the context, and in each state that fits, the goal stands where its loops end and all subgoals stand.
abbrev pub ImpliesWhereLoopsEnd : Declarations → Context → List Goal → Goal → Type 0
ImpliesWhereLoopsEnd ds c Gs G = (g : Setting) → IsSettingOf c g → IsSettingOver ds g → LoopsEnd g G → (j : Judge) → IsFair g j →
    (s : State) → IsStateOf c g s → AllByRecursion (Stands g j s) Gs → Stands g j s G

-- What a rule gives of a typed goal by a typed step: typed subgoals, which imply the goal where its loops end; and then theirs do.
pub record IsSoundOnLoops (ds : Declarations) (c : Context) (Gs : List Goal) (G : Goal) : Type 0 where
  pub typed : AllByRecursion (IsTypedGoal c) Gs
  pub implies : ImpliesWhereLoopsEnd ds c Gs G
  pub ends : KeepsEnds ds Gs G

-- the law of a rule on loops
abbrev pub IsSoundLoopRule : Declarations → Context → Row → (List TypedName → List TypedName → Goal → Type 0) → Type 0
IsSoundLoopRule ds c row step = c ≡ outermost c → (ls rs : List TypedName) (G : Goal) → IsGoalOver c ls rs G → step ls rs G →
    (Gs : List Goal) → row G ≡ given Gs → IsSoundOnLoops ds c Gs G

-- each loop is good that a procedure reaches, through all that it calls
abbrev pub ReachesGoodLoops : Setting → Option Routine → Type 0
ReachesGoodLoops g None = Unit {0}
ReachesGoodLoops g (Some r) = EachLoopOfIsGood g r

-- Procedures that call each other alone, and each of which has good loops itself, in a setting.
abbrev pub AreEnded : scope.Declarations → Setting → (ProcRef → Type 0) → Type 0
AreEnded ds g E = (p : ProcRef) → E p → (a : Declared) × (procedure_of ds p ≡ Some a) × EachCallOf E a.body.list × LoopsAreGood g (statements g a.body.list)
