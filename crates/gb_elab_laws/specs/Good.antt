-- Loops that are good.
use Rattle.std.specs.Prelude.{List}
use Rattle.std.specs.List.{AllByRecursion}
use Rattle.gb_meaning.specs.Commands.{statements}
use Rattle.gb_meaning.specs.Loops.{IsGood}
use Rattle.gb_meaning.specs.Setting.{Setting}
use Rattle.gb_meaning.specs.State.{closed}
use Rattle.gb_meaning.specs.Declared.{Declarations}
use Rattle.gb_meaning.specs.Holds.{Holds, InEachModel}
use Rattle.gb_meaning.specs.Settings.{setting}
use Rattle.gb_typing.specs.Scopes.{context_of}
use Rattle.gb_typing.specs.Sequents.{IsTypedSequent}
use Rattle.gb_loops.specs.Loops.{Loop}
use Rattle.gb_loops.specs.Variants.{loop_goals}

-- a loop is good, in a setting
abbrev pub LoopIsGood : Setting → Loop → Type 0
LoopIsGood g l = IsGood g closed l.guard l.variant (statements g l.body)

-- each of these loops is good, in each model
abbrev pub AreGoodLoops : Declarations → List Loop → Type 0
AreGoodLoops ds ls = InEachModel ds (λ i. AllByRecursion (LoopIsGood (setting ds i)) ls)

-- The goals of a loop are typed; and where they hold, it is good in each model.
pub record IsShownBy (ds : Declarations) (l : Loop) : Type 0 where
  pub typed : AllByRecursion (IsTypedSequent (context_of ds)) (loop_goals l)
  pub good : AllByRecursion (Holds ds) (loop_goals l) → InEachModel ds (λ i. LoopIsGood (setting ds i) l)
