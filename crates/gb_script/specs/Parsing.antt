-- What reading by a grammar promises.
use Rattle.std.specs.Prelude.{◌≡◌, ℕ, ◌+◌, ◌<◌, ◌≤◌, ◌⊎◌, List, [], ◌∷◌, ◌++◌, length, take}
use Rattle.std.specs.List.{All}
use Rattle.gb_script.specs.declared.table.Symbol.TheVariants.{Part}
use Rattle.gb_script.specs.declared.error.ReadError.{ReadError}
use Rattle.gb_script.specs.declared.error.ReadError.TheVariants.{Memory, Fault}
use Rattle.gb_script.specs.declared.table.Step.{Step}
use Rattle.gb_script.specs.Grammar.{Grammar, Derives}

-- A kind of token within a text.
abbrev pub IsKind : ℕ → Type 0
IsKind k = (0 < k) × (k < 128)

module _ {R : Type 0} where
  -- The kinds are a text of this part, by these steps.
  abbrev pub Spells : Grammar R → ℕ → List ℕ → List (Step R) → Type 0
  Spells g n kinds steps = Derives g (Part n ∷ []) 0 kinds steps

  -- The kinds begin a text of this part.
  abbrev pub Begins : Grammar R → ℕ → List ℕ → Type 0
  Begins g n kinds = (more : List ℕ) × (steps : List (Step R)) × Spells g n (kinds ++ more) steps

  -- The first token that no text can have there: the tokens before it begin a text, and with it they begin none. At
  -- the end of the kinds: they begin a text, and are none.
  pub record FirstFault (g : Grammar R) (n : ℕ) (kinds : List ℕ) (at : ℕ) : Type 0 where
    pub within : at ≤ length kinds
    pub begun : Begins g n (take at kinds)
    pub refused : at < length kinds → Begins g n (take (at + 1) kinds) → ⊥
    pub no_text : (steps : List (Step R)) → Spells g n kinds steps → ⊥

  -- The steps that each text takes before its token of this index, if it begins as the kinds do.
  pub record StepsBefore (g : Grammar R) (n : ℕ) (kinds : List ℕ) (at : ℕ) (steps : List (Step R)) : Type 0 where
    pub early : All (λ s. s.at < at) steps
    pub first : (more : List ℕ) (all : List (Step R)) → Spells g n (take at kinds ++ more) all → (rest : List (Step R)) × (all ≡ steps ++ rest) × All (λ s. at ≤ s.at) rest

  -- A fault is the first one, with the steps before it.
  abbrev pub IsFault : Grammar R → ℕ → List ℕ → ReadError R → Type 0
  IsFault g n kinds Memory = Unit {0}
  IsFault g n kinds (Fault at steps) = FirstFault g n kinds at × StepsBefore g n kinds at steps.items

  -- The kinds are a text of this part, or there is a first fault, with the steps before it.
  abbrev pub IsTextOrFault : Grammar R → ℕ → List ℕ → Type 0
  IsTextOrFault g n kinds =
      ((steps : List (Step R)) × Spells g n kinds steps) ⊎ ((at : ℕ) × (steps : List (Step R)) × FirstFault g n kinds at × StepsBefore g n kinds at steps)
