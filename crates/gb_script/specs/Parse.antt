-- Parses as data: what is chosen for each part of some symbols, with the tokens, steps and values that follow.
use Rattle.std.specs.Prelude.{◌≡◌, ℕ, ◌+◌, List, [], ◌∷◌, ◌++◌, length}
use Rattle.gb_script.specs.declared.table.Step.{Step}
use Rattle.gb_script.specs.declared.table.Symbol.{Symbol}
use Rattle.gb_script.specs.declared.table.Symbol.TheVariants.{Token, Part}
use Rattle.gb_script.specs.Grammar.{Grammar, Production, IsProduction, step}
use Rattle.gb_script.specs.declared.action.Rule.{Rule}
use Rattle.gb_script.specs.declared.text.Text.{Text}
use Rattle.gb_script.specs.declared.value.Value.{Value}
use Rattle.gb_script.specs.Build.{run}

module _ (g : Grammar Rule) where
  -- A parse of the symbols by productions that may stand before any token.
  pub data Parses : List Symbol → Type 0 where
    none : Parses []
    token : {k : ℕ} {ss : List Symbol} → Parses ss → Parses (Token k ∷ ss)
    part : {n : ℕ} {ss : List Symbol} (r : Production Rule) → IsProduction g n r → r.stops ≡ 0 → Parses r.body → Parses ss → Parses (Part n ∷ ss)

  -- its kinds of token
  abbrev pub kinds : {ss : List Symbol} → Parses ss → List ℕ
  kinds none = []
  kinds (token {k = k} d) = k ∷ kinds d
  kinds (part r i z b d) = kinds b ++ kinds d

  -- its steps from a position on
  abbrev pub steps : {ss : List Symbol} → ℕ → Parses ss → List (Step Rule)
  steps at none = []
  steps at (token d) = steps (at + 1) d
  steps at (part r i z b d) = step r at ∷ steps at b ++ steps (at + length (kinds b)) d

  -- its values from a position on
  abbrev pub values : {ss : List Symbol} → Text → ℕ → Parses ss → List Value
  values t at none = []
  values t at (token d) = values t (at + 1) d
  values t at (part r i z b d) = run t (step r at) (values t at b) ++ values t (at + length (kinds b)) d
