-- What a grammar relates.
use Rattle.std.specs.Prelude.{◌≡◌, ℕ, ◌+◌, ◌/◌, ◌%◌, ◌^◌, List, [], ◌∷◌, ◌++◌, Bool, false, Some, nat_eq, nat_le, if◌then◌else◌, slice_get, drop}
use Rattle.gb_script.specs.declared.table.Symbol.{Symbol}
use Rattle.gb_script.specs.declared.table.Symbol.TheVariants.{Token, Part}
use Rattle.gb_script.specs.declared.table.Row.{Row}
use Rattle.gb_script.specs.declared.table.Step.{Step}

-- The kind is in the set.
abbrev pub has : ℕ → ℕ → Bool
has set kind = nat_eq ((set / 2 ^ kind) % 2) 1

-- A production rewrites a part into its body.
pub record Production (R : Type 0) : Type 0 where
  pub part : ℕ
  pub rule : R
  pub starts : ℕ
  pub stops : ℕ
  pub body : List Symbol

abbrev pub Grammar : Type 0 → Type 0
Grammar R = List (Production R)

-- the symbols before the first token of kind 0
abbrev pub body_of : List Symbol → List Symbol
body_of [] = []
body_of (Token k ∷ ss) = if nat_eq k 0 then [] else Token k ∷ body_of ss
body_of (Part n ∷ ss) = Part n ∷ body_of ss

module _ {R : Type 0} where
  -- the production of a row, with its body
  abbrev pub with_body : Row R → List Symbol → Production R
  with_body r body = record { part = r.part; rule = r.rule; starts = r.starts; stops = r.stops; body = body }

  abbrev pub production_of : Row R → List Symbol → Production R
  production_of r symbols = with_body r (body_of (drop r.body symbols))

  -- the grammar of a table up to a stage
  abbrev pub grammar_of : ℕ → List (Row R) → List Symbol → Grammar R
  grammar_of stage [] symbols = []
  grammar_of stage (r ∷ rows) symbols = if nat_le r.stage stage then production_of r symbols ∷ grammar_of stage rows symbols else grammar_of stage rows symbols

  -- A production of the grammar rewrites this part.
  pub record IsProduction (g : Grammar R) (n : ℕ) (r : Production R) : Type 0 where
    pub place : ℕ
    pub part_is : r.part ≡ n
    pub row_is : slice_get g place ≡ Some r

  -- The production may stand before these kinds of token.
  abbrev pub Allowed : Production R → List ℕ → Type 0
  Allowed r [] = Unit {0}
  Allowed r (t ∷ w) = has r.stops t ≡ false

  abbrev pub step : Production R → ℕ → Step R
  step r at = record { rule = r.rule; at = at }

  -- From this position on the symbols spell the kinds of token, by these steps, the leftmost part first.
  pub data Derives (g : Grammar R) : List Symbol → ℕ → List ℕ → List (Step R) → Type 0 where
    done : {at : ℕ} → Derives g [] at [] []
    token : {k : ℕ} {ss : List Symbol} {at : ℕ} {w : List ℕ} {ps : List (Step R)} → Derives g ss (at + 1) w ps → Derives g (Token k ∷ ss) at (k ∷ w) ps
    choose : {n : ℕ} {ss : List Symbol} {at : ℕ} {w : List ℕ} {ps : List (Step R)} (r : Production R) → IsProduction g n r → Allowed r w → Derives g (r.body ++ ss) at w ps → Derives g (Part n ∷ ss) at w (step r at ∷ ps)
