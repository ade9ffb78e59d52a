-- How many values the steps of a derivation build, whatever steps come behind them.
use Rattle.std.specs.Prelude.{◌≡◌, ℕ, ◌+◌, ◌-◌, Bool, true, ◌&&◌, nat_eq, nat_le, List, [], ◌∷◌, ◌++◌, length}
use Rattle.gb_script.specs.declared.table.Step.{Step}
use Rattle.gb_script.specs.declared.table.Symbol.{Symbol}
use Rattle.gb_script.specs.declared.table.Symbol.TheVariants.{Token, Part}
use Rattle.gb_script.specs.Grammar.{Grammar, Production}
use Rattle.gb_script.specs.declared.action.Action.{Action}
use Rattle.gb_script.specs.declared.action.Action.TheVariants.{Nothing, Pass}
use Rattle.gb_script.specs.declared.action.Rule.{Rule}
use Rattle.gb_script.specs.declared.text.Text.{Text}
use Rattle.gb_script.specs.declared.value.Value.{Value}
use Rattle.gb_script.specs.Build.{built}

-- how many values an action makes of so many
abbrev pub count_of : Action → ℕ → ℕ
count_of Nothing n = 0
count_of Pass n = n
count_of _ n = 1

-- how many values the symbols of a body have together, from those of each part
abbrev pub width_of : (ℕ → ℕ) → List Symbol → ℕ
width_of width [] = 0
width_of width (Token k ∷ ss) = width_of width ss
width_of width (Part n ∷ ss) = width n + width_of width ss

-- A production takes some of the values of its body, and with the others has as many as its part.
abbrev pub action_ok : (ℕ → ℕ) → Production Rule → Bool
action_ok width r = nat_le r.rule.takes (width_of width r.body) && nat_eq (count_of r.rule.action r.rule.takes + (width_of width r.body - r.rule.takes)) (width r.part)

abbrev pub actions_ok : (ℕ → ℕ) → Grammar Rule → Bool
actions_ok width [] = true
actions_ok width (r ∷ rs) = action_ok width r && actions_ok width rs

-- These steps put so many values on what the steps behind them build.
pub record Frames (t : Text) (steps : List (Step Rule)) (count : ℕ) : Type 0 where
  pub values : List Value
  pub counted : length values ≡ count
  pub frame : (rest : List (Step Rule)) → built t (steps ++ rest) ≡ values ++ built t rest
