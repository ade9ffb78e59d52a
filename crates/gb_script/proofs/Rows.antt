-- The rows of a table, against its productions.
use Rattle.std.specs.Prelude.{if◌then◌else◌, ◌≡◌, ℕ, ◌<◌, List, [], ◌∷◌, Bool, true, false, ◌&&◌, Option, Some, None, nat_eq, nat_le}
use Rattle.std.proofs.Common.{refl, ap, ◌∙◌}
use Rattle.gb_script.specs.declared.table.Symbol.{Symbol}
use Rattle.gb_script.specs.declared.table.Row.{Row}
use Rattle.gb_script.specs.Grammar.{has, Production, Grammar, production_of, grammar_of}
use Rattle.gb_script.specs.Check.{Claims, productions_ok, places_ok, grammar_ok, pick_row, pick_of, IsPlaced}
use Rattle.gb_script.proofs.Tests.{both}
use Rattle.gb_script.proofs.Places.{is_placed}
use Rattle.gb_script.proofs.Sound.{Sound, sound}

module _ {R : Type 0} (stage : ℕ) (symbols : List Symbol) where
  abbrev found_production : Option (Row R) → Option (Production R)
  found_production None = None
  found_production (Some r) = Some (production_of r symbols)

  same_choice : (b : Bool) (r : Row R) (o : Option (Row R)) (p : Option (Production R)) → p ≡ found_production o → (if b then Some (production_of r symbols) else p) ≡ found_production (if b then Some r else o)
  same_choice true r o p e = refl
  same_choice false r o p e = e

  kept_or_not : (kept : Bool) (n t : ℕ) (r : Row R) (o : Option (Row R)) (g : Grammar R) → pick_of g n t ≡ found_production o
      → pick_of (if kept then production_of r symbols ∷ g else g) n t ≡ found_production (if kept && (nat_eq r.part n && has r.starts t) then Some r else o)
  kept_or_not true n t r o g e = same_choice (nat_eq r.part n && has r.starts t) r o (pick_of g n t) e
  kept_or_not false n t r o g e = e

  same_pick : (rows : List (Row R)) (n t : ℕ) → pick_of (grammar_of stage rows symbols) n t ≡ found_production (pick_row stage rows n t)
  same_pick [] n t = refl
  same_pick (r ∷ rows) n t = kept_or_not (nat_le r.stage stage) n t r (pick_row stage rows n t) (grammar_of stage rows symbols) (same_pick rows n t)

  pub picks_none : (rows : List (Row R)) (n t : ℕ) → pick_row stage rows n t ≡ None → pick_of (grammar_of stage rows symbols) n t ≡ None
  picks_none rows n t e = same_pick rows n t ∙ ap (λ (o : Option (Row R)). found_production o) e

  pub picks_some : (rows : List (Row R)) (n t : ℕ) (r : Row R) → pick_row stage rows n t ≡ Some r → pick_of (grammar_of stage rows symbols) n t ≡ Some (production_of r symbols)
  picks_some rows n t r e = same_pick rows n t ∙ ap (λ (o : Option (Row R)). found_production o) e

module _ {R : Type 0} (stage : ℕ) (rows : List (Row R)) (symbols : List Symbol) (c : Claims) (places : List ℕ) (ok : grammar_ok stage c places rows symbols ≡ true) where
  pub sound_table : Sound (grammar_of stage rows symbols) c
  sound_table = sound (grammar_of stage rows symbols) c (both (productions_ok c (grammar_of stage rows symbols)) (places_ok places c.count rows) ok).0

  pub placed : (n : ℕ) → n < c.count → IsPlaced stage rows places n
  placed n lt = is_placed stage places n c.count rows (both (productions_ok c (grammar_of stage rows symbols)) (places_ok places c.count rows) ok).1 lt
