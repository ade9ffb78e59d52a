-- Lists of declarations and of globals.
use Rattle.std.proofs.Common.{◌≡◌, Bool, true, false, if◌then◌else◌, List, [], ◌∷◌, ◌++◌, filter, Option, Some, bytes_eq, refl, ap}
use Rattle.gb_terms.specs.declared.decl.Module.{Module}
use Rattle.gb_goal.specs.declared.scope.Entry.{Entry}
use Rattle.gb_goal.specs.declared.scope.Entry.TheVariants as entry
use Rattle.gb_goal.specs.Scope.{Declarations, entry_of, as_module, module_of}
use Rattle.gb_meaning.specs.Names.{Name}
use Rattle.gb_meaning.specs.Declared.{declared, declaration_of, module_in, module_named}

pub declared-append : (ds es : Declarations) → declared (ds ++ es) ≡ declared ds ++ declared es
declared-append [] es = refl
declared-append (d ∷ ds) es = ap (λ r. (d.0, declaration_of d.1) ∷ r) (declared-append ds es)

module_in-entry : (e : Entry) → module_in (declaration_of e) ≡ as_module (Some e)
module_in-entry (entry.ModuleType t) = refl
module_in-entry (entry.AbstractModule t) = refl
module_in-entry (entry.Module m) = refl
module_in-entry (entry.Lemma q order) = refl
module_in-entry (entry.Type t) = refl
module_in-entry entry.AbstractType = refl
module_in-entry (entry.Constant c) = refl
module_in-entry (entry.Operator o) = refl
module_in-entry (entry.AbstractOperator o) = refl
module_in-entry (entry.Terminating p) = refl

named-if : (b : Bool) (e : Entry) (x : Option Module) (r : Option Entry) → x ≡ as_module r →
    (if b then module_in (declaration_of e) else x) ≡ as_module (if b then Some e else r)
named-if true e x r h = module_in-entry e
named-if false e x r h = h

pub declared-module : (ds : Declarations) (n : Name) → module_named (declared ds) n ≡ module_of ds n
declared-module [] n = refl
declared-module (d ∷ ds) n = named-if (bytes_eq n d.0) d.1 (module_named (declared ds) n) (entry_of ds n) (declared-module ds n)

-- a test that holds of nothing keeps nothing
pub none_kept : {A : Type 0} (xs : List A) → filter (λ (x : A). false) xs ≡ []
none_kept [] = refl
none_kept (x ∷ xs) = none_kept xs
