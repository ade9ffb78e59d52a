-- Rules: a rule answers a goal with subgoals, or refuses it.
use Rattle.std.specs.Prelude.{◌≡◌, List, [], None}
use Rattle.std.specs.List.{AllByRecursion}
use Rattle.gb_terms.specs.declared.decl.TypedName.{TypedName}
use Rattle.gb_meaning.specs.Setting.{Setting}
use Rattle.gb_meaning.specs.State.{State}
use Rattle.gb_meaning.specs.Judgments.{Judge, IsFair}
use Rattle.gb_meaning.specs.Declared.{Declarations}
use Rattle.gb_meaning.specs.Settings.{Interpretation, setting}
use Rattle.gb_typing.specs.Context.{Context}
use Rattle.gb_typing.specs.Fits.{IsSettingOf, IsStateOf}
use Rattle.gb_typing.specs.Chosen.{IsChosenOver}
use Rattle.gb_goal.specs.Goal.{Goal}
use Rattle.gb_goal.specs.Answers.Answer.{given}
use Rattle.gb_goal.specs.Rows.{Row}
use Rattle.gb_typing.specs.Goals.{IsGoalOver, IsTypedGoal}
use Rattle.gb_typing.specs.Meaning.{Stands}

-- In each setting and state that fit the context, the goal stands where all subgoals stand.
abbrev pub Implies : Context → List Goal → Goal → Type 0
Implies c Gs G = (g : Setting) → IsSettingOf c g → (j : Judge) → IsFair g j → (s : State) → IsStateOf c g s →
    AllByRecursion (Stands g j s) Gs → Stands g j s G

-- A setting of declarations: what their names mean in an interpretation. Programs of their types are chosen for the modules that open
-- sections declare, and none hides a declared module.
pub record IsSettingOver (ds : Declarations) (g : Setting) : Type 0 where
  pub interpretation : Interpretation
  pub chosen : IsChosenOver ds interpretation
  pub meant : g ≡ setting ds interpretation

-- The same in the settings of declarations.
abbrev pub ImpliesIn : Declarations → Context → List Goal → Goal → Type 0
ImpliesIn ds c Gs G = (g : Setting) → IsSettingOf c g → IsSettingOver ds g → (j : Judge) → IsFair g j → (s : State) → IsStateOf c g s →
    AllByRecursion (Stands g j s) Gs → Stands g j s G

-- the context of a goal: no binder is around, and no memory but named ones
abbrev pub outermost : Context → Context
outermost c = record c { own = None; left = None; right = None; bound = []; frames = [] }

-- What a rule gives of a typed goal by a typed step: typed subgoals, which imply the goal.
abbrev pub IsSoundAt : Context → Row → Goal → Type 0
IsSoundAt c row G = (Gs : List Goal) → row G ≡ given Gs → AllByRecursion (IsTypedGoal c) Gs × Implies c Gs G

-- the same of a rule that looks at declarations
abbrev pub IsSoundIn : Declarations → Context → Row → Goal → Type 0
IsSoundIn ds c row G = (Gs : List Goal) → row G ≡ given Gs → AllByRecursion (IsTypedGoal c) Gs × ImpliesIn ds c Gs G

-- The law of a rule. It is told when the arguments of its step are typed, at a goal whose bodies are over these locals.
abbrev pub IsSoundRule : Context → Row → (List TypedName → List TypedName → Goal → Type 0) → Type 0
IsSoundRule c row step =
    c ≡ outermost c → (ls rs : List TypedName) (G : Goal) → IsGoalOver c ls rs G → step ls rs G → IsSoundAt c row G

-- the law of a rule that looks at declarations
abbrev pub IsSoundRuleIn : Declarations → Context → Row → (List TypedName → List TypedName → Goal → Type 0) → Type 0
IsSoundRuleIn ds c row step =
    c ≡ outermost c → (ls rs : List TypedName) (G : Goal) → IsGoalOver c ls rs G → step ls rs G → IsSoundIn ds c row G

-- a step without arguments
abbrev pub no_arguments : List TypedName → List TypedName → Goal → Type 0
no_arguments ls rs G = Unit {0}
