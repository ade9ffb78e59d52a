-- Rules that put bodies of procedures into goals lead to good loops where those of procedures are good whose loops are proved.
use Rattle.std.specs.Prelude.{◌≡◌, List, Some, None}
use Rattle.std.specs.List.{AllByRecursion}
use Rattle.gb_terms.specs.declared.decl.Proc.{Proc}
use Rattle.gb_terms.specs.declared.decl.TypedName.{TypedName}
use Rattle.gb_terms.specs.declared.module.ProcRef.{ProcRef}
use Rattle.gb_ended.specs.Loops.{unproved_of}
use Rattle.gb_goal.specs.Answers.Answer.{given}
use Rattle.gb_goal.specs.Goal.{Goal}
use Rattle.gb_goal.specs.Rows.{Row}
use Rattle.gb_goal.specs.Scope.{Declarations, procedure_of}
use Rattle.gb_meaning.specs.Declared.{declared}
use Rattle.gb_meaning.specs.Holds.{LoopsAreGood}
use Rattle.gb_meaning.specs.Commands.{statements}
use Rattle.gb_meaning.specs.Setting.{Setting}
use Rattle.gb_typing.specs.Context.{Context}
use Rattle.gb_typing.specs.Fits.{IsSettingOf}
use Rattle.gb_typing.specs.Goals.{IsGoalOver, IsTypedGoal}
use Rattle.gb_typing.specs.Rules.{IsSettingOver, outermost}
use Rattle.gb_prog.specs.Ends.{ImpliesWhereLoopsEnd, LoopsEnd}

-- the loops of each declared procedure are good, unless they aren't proved
abbrev pub ProvedEnd : Declarations → Setting → Type 0
ProvedEnd ds g = (p : ProcRef) (a : Proc) → procedure_of ds p ≡ Some a → unproved_of ds p ≡ None → LoopsAreGood g (statements g a.body.list)

-- typed subgoals, which imply the goal where its loops end; and then theirs do, where loops that are proved are good
pub record IsSoundOnProved (ds : Declarations) (c : Context) (Gs : List Goal) (G : Goal) : Type 0 where
  pub typed : AllByRecursion (IsTypedGoal c) Gs
  pub implies : ImpliesWhereLoopsEnd (declared ds) c Gs G
  pub ends : (g : Setting) → IsSettingOf c g → IsSettingOver (declared ds) g → ProvedEnd ds g → LoopsEnd g G → AllByRecursion (LoopsEnd g) Gs

-- the law of such a rule
abbrev pub IsSoundProvedRule : Declarations → Context → Row → Type 0
IsSoundProvedRule ds c row = c ≡ outermost c → (ls rs : List TypedName) (G : Goal) → IsGoalOver c ls rs G → (Gs : List Goal) → row G ≡ given Gs → IsSoundOnProved ds c Gs G
