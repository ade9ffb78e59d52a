-- The types of a setting.
use Rattle.std.proofs.Common.{◌≡◌, [], ◌∷◌, refl, ◌∙◌}
use Rattle.gb_meaning.specs.Names.{Name}
use Rattle.gb_meaning.specs.Setting.{Setting}
use Rattle.gb_meaning.specs.Declared.{Declarations, Declaration, abstract_type, abbreviation, operator, abstract_operator, module_type, concrete_module, abstract_module, axiom_of, lemma, terminating}
use Rattle.gb_meaning.specs.Settings.{Table, Interpretation, types_of, bare, with_declaration, with_operators, setting}

declaration-types : (i : Table) (g : Setting) (n : Name) (d : Declaration) → (with_declaration i g n d).types ≡ g.types
declaration-types i g n abstract_type = refl
declaration-types i g n (abbreviation stood) = refl
declaration-types i g n (operator o) = refl
declaration-types i g n (abstract_operator o) = refl
declaration-types i g n (module_type t) = refl
declaration-types i g n (concrete_module m) = refl
declaration-types i g n (abstract_module b) = refl
declaration-types i g n (axiom_of q) = refl
declaration-types i g n (lemma q) = refl
declaration-types i g n (terminating f) = refl

operators-types : (i : Table) (g : Setting) (ds : Declarations) → (with_operators i g ds).types ≡ g.types
operators-types i g [] = refl
operators-types i g (d ∷ ds) = operators-types i (with_declaration i g d.0 d.1) ds ∙ declaration-types i g d.0 d.1

pub setting-types : (ds : Declarations) (i : Interpretation) → (setting ds i).types ≡ types_of ds i
setting-types ds i = operators-types i.table (bare (types_of ds i) i.table) ds
