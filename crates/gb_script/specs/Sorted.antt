-- What the steps of a derivation build is well-sorted.
use Rattle.std.specs.Prelude.{◌≡◌, List, ◌++◌}
use Rattle.gb_script.specs.declared.table.Step.{Step}
use Rattle.gb_script.specs.declared.action.Rule.{Rule}
use Rattle.gb_script.specs.declared.text.Text.{Text}
use Rattle.gb_script.specs.declared.value.Value.{Value}
use Rattle.gb_script.specs.Build.{built}
use Rattle.gb_script.specs.Sorts.{Language, ValueSort, HaveSorts}

-- These steps put values of these sorts on what the steps behind them build.
pub record BuildsSorts (l : Language) (t : Text) (steps : List (Step Rule)) (ts : List ValueSort) : Type 0 where
  pub values : List Value
  pub sorted : HaveSorts l ts values
  pub frame : (rest : List (Step Rule)) → built t (steps ++ rest) ≡ values ++ built t rest
