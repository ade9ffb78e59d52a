-- Rows of the table as productions of the grammar of a stage.
use Rattle.std.specs.Prelude.{ℕ, zero, suc, ◌≡◌, true, false, Bool, if◌then◌else◌, List, [], ◌∷◌, Option, Some, None, nat_le, slice_get}
use Rattle.std.proofs.Common.{refl, ap, ◌∙◌}
use Rattle.gb_script.specs.declared.table.Row.{Row}
use Rattle.gb_script.specs.declared.table.Symbol.{Symbol}
use Rattle.gb_script.specs.Grammar.{Grammar, Production, IsProduction, production_of, grammar_of}
use Rattle.gb_language.specs.Language.{all_rows, all_symbols}
use Rattle.gb_script.specs.declared.action.Rule.{Rule}

-- the grammar of a stage
unfoldable pub grammar : ℕ → Grammar Rule
grammar stage = grammar_of stage all_rows all_symbols

-- a row of the table, as a production with its stage
abbrev staged : List Symbol → Option (Row Rule) → Option (ℕ × Production Rule)
staged symbols (Some r) = Some (r.stage, production_of r symbols)
staged symbols None = None

abbrev Placed : Grammar Rule → Production Rule → Type 0
Placed g p = (place : ℕ) × (slice_get g place ≡ Some p)

placed_by : (b : Bool) (g : Grammar Rule) (q p : Production Rule) → Placed g p → Placed (if b then q ∷ g else g) p
placed_by true g q p h = (suc h.0, h.1)
placed_by false g q p h = h

found : (stage : ℕ) (rows : List (Row Rule)) (symbols : List Symbol) (i n : ℕ) (p : Production Rule) → staged symbols (slice_get rows i) ≡ Some (n, p)
    → nat_le n stage ≡ true → Placed (grammar_of stage rows symbols) p
found stage [] symbols i n p e h = absurd cc
found stage (r ∷ rows) symbols zero n p e h =
    let same : (r.stage, production_of r symbols) ≡ (n, p) = cc in
    let here : nat_le r.stage stage ≡ true = ap (λ (x : ℕ × Production Rule). nat_le x.0 stage) same ∙ h in
    rw here (zero, ap (λ (x : ℕ × Production Rule). Some x.1) same)
found stage (r ∷ rows) symbols (suc i) n p e h =
    placed_by (nat_le r.stage stage) (grammar_of stage rows symbols) (production_of r symbols) p (found stage rows symbols i n p e h)

pub listed : (stage i n : ℕ) (p : Production Rule) → staged all_symbols (slice_get all_rows i) ≡ Some (n, p) → nat_le n stage ≡ true → IsProduction (grammar stage) p.part p
unfolding grammar
listed stage i n p e h = let f = found stage all_rows all_symbols i n p e h in record { place = f.0; part_is = refl; row_is = f.1 }
