-- Where the modules of a scope and their procedures stand.
use Rattle.std.proofs.Common.{◌≡◌, Bool, true, false, if◌then◌else◌, List, [], ◌∷◌, ◌++◌, Option, Some, None, bytes_eq, refl, ap, sym, ◌∙◌, subst}
use Rattle.std.specs.Option.{option_map}
use Rattle.std.proofs.lemmas.List.{append_assoc, append-nil}
use Rattle.gb_terms.specs.declared.decl.Module.{Module}
use Rattle.gb_terms.specs.declared.decl.Param.{Param}
use Rattle.gb_terms.specs.declared.decl.Proc.{Proc}
use Rattle.gb_terms.specs.declared.module.Mexp.{Mexp}
use Rattle.gb_goal.specs.declared.scope.Entry.{Entry}
use Rattle.gb_goal.specs.declared.scope.Entry.TheVariants as entry
use Rattle.gb_goal.specs.Instances.{instance}
use Rattle.gb_goal.specs.Interfaces.{suits}
use Rattle.gb_goal.specs.Scope as scope
use Rattle.gb_goal.specs.Scope.{as_module, entry_of, instance_at, module_of, proc_of, proc_if_plain, proc_in}
use Rattle.gb_meaning.specs.Names.{Name}
use Rattle.gb_meaning.specs.Declared.{declared, concrete_module}
use Rattle.gb_meaning.specs.Modules.{Procedures}
use Rattle.gb_meaning.specs.Naming.{IsFreshAmong}
use Rattle.gb_meaning.proofs.Lists.{declared-append}
use Rattle.gb_typing.specs.Context.{Context}
use Rattle.gb_typing.specs.Modules.{ProcedureType, with_interface}
use Rattle.gb_typing.specs.Programs.{IsProcedure, type_of_procedure}
use Rattle.gb_typing.specs.Scopes.{interface_with, procedure_types, in_module, with_params, with_globals, AreProcedures}
use Rattle.gb_typing.proofs.Interfaces.{none_some, same_some, same_name}

-- the first procedure of a name, those before it, and those after it
pub record Among (c : Context) (m : Module) (earlier : Procedures ProcedureType) (ps : List Proc) (f : Name) (p : Proc) : Type 0 where
  pub front : List Proc
  pub after : List Proc
  pub place : ps ≡ front ++ p ∷ after
  pub name : f ≡ p.name
  pub fresh : IsFreshAmong front f
  pub typed : IsProcedure (in_module c m (earlier ++ procedure_types front)) p

pub among : (c : Context) (m : Module) (ps : List Proc) (earlier : Procedures ProcedureType) → AreProcedures c m earlier ps → (f : Name) (p : Proc) → proc_of ps f ≡ Some p → Among c m earlier ps f p
among c m [] earlier w f p e = none_some p e
among c m (x ∷ ps) earlier w f p e = step (bytes_eq f x.name) refl (λ e. among c m ps (earlier ++ (x.name, type_of_procedure x) ∷ []) w.2 f p e) e
  where
    step : (b : Bool) → bytes_eq f x.name ≡ b → (proc_of ps f ≡ Some p → Among c m (earlier ++ (x.name, type_of_procedure x) ∷ []) ps f p) → (if b then Some x else proc_of ps f) ≡ Some p →
        Among c m earlier (x ∷ ps) f p
    step true h rest e =
        let same : x ≡ p = same_some x p e in
        record {
          front = [];
          after = ps;
          place = ap (λ z. z ∷ ps) same;
          name = same_name f x.name h ∙ ap (λ z. z.name) same;
          fresh = tt;
          typed = subst (λ z. IsProcedure (in_module c m (earlier ++ [])) z) same (subst (λ z. IsProcedure (in_module c m z) x) (sym (append-nil earlier)) w.1);
        }
    step false h rest e =
        let a = rest e in
        record {
          front = x ∷ a.front;
          after = a.after;
          place = ap (λ z. x ∷ z) a.place;
          name = a.name;
          fresh = (h, a.fresh);
          typed = subst (λ z. IsProcedure (in_module c m z) p) (append_assoc earlier ((x.name, type_of_procedure x) ∷ []) (procedure_types a.front)) a.typed;
        }

-- a declared module, and where it stands
pub record Stands (ds : scope.Declarations) (n : Name) (m : Module) : Type 0 where
  pub front : scope.Declarations
  pub after : scope.Declarations
  pub place : ds ≡ front ++ (n, entry.Module m) ∷ after

stands_first : (ds : scope.Declarations) (n : Name) (m : Module) (e : Entry) → as_module (Some e) ≡ Some m → Stands ((n, e) ∷ ds) n m
stands_first ds n m (entry.Module x) r = record { front = []; after = ds; place = ap (λ z. (n, entry.Module z) ∷ ds) (same_some x m r) }
stands_first ds n m _ r = none_some m r

-- the module of a name stands somewhere among declarations
pub stands : (ds : scope.Declarations) (n : Name) (m : Module) → module_of ds n ≡ Some m → Stands ds n m
stands [] n m r = none_some m r
stands ((h, e) ∷ ds) n m r = step (bytes_eq n h) refl (stands ds n m) r
  where
    step : (b : Bool) → bytes_eq n h ≡ b → (module_of ds n ≡ Some m → Stands ds n m) → as_module (if b then Some e else entry_of ds n) ≡ Some m → Stands ((h, e) ∷ ds) n m
    step true q later r = subst (λ z. Stands ((z, e) ∷ ds) n m) (same_name n h q) (stands_first ds n m e r)
    step false q later r = let l = later r in record { front = (h, e) ∷ l.front; after = l.after; place = ap (λ z. (h, e) ∷ z) l.place }

-- among the declarations that a scope declares
pub module_place : (ds : scope.Declarations) (n : Name) (m : Module) (l : Stands ds n m) → declared ds ≡ declared l.front ++ (n, concrete_module m) ∷ declared l.after
module_place ds n m l = ap declared l.place ∙ declared-append l.front ((n, entry.Module m) ∷ l.after)

-- A procedure of a declared module without parameters, and where this stands.
pub record Standing (ds : scope.Declarations) (n f : Name) (p : Proc) : Type 0 where
  pub front : scope.Declarations
  pub after : scope.Declarations
  pub found : Module
  pub place : ds ≡ front ++ (n, entry.Module found) ∷ after
  pub alone : found.params ≡ []
  pub procedure : proc_of found.procs f ≡ Some p

-- a procedure is found in a module without parameters alone
alone_if : (xs : List Param) (ps : List Proc) (f : Name) (p : Proc) → proc_if_plain xs ps f ≡ Some p → xs ≡ []
alone_if [] ps f p e = refl
alone_if (x ∷ xs) ps f p e = none_some p e

procedure_if : (xs : List Param) (ps : List Proc) (f : Name) (p : Proc) → proc_if_plain xs ps f ≡ Some p → proc_of ps f ≡ Some p
procedure_if [] ps f p e = e
procedure_if (x ∷ xs) ps f p e = none_some p e

pub standing : (ds : scope.Declarations) (n f : Name) (p : Proc) → proc_in (module_of ds n) f ≡ Some p → Standing ds n f p
standing ds n f p e = by_found (module_of ds n) refl e
  where
    by_found : (o : Option Module) → module_of ds n ≡ o → proc_in o f ≡ Some p → Standing ds n f p
    by_found None h e = none_some p e
    by_found (Some m) h e = let l = stands ds n m h in
        record { front = l.front; after = l.after; found = m; place = l.place; alone = alone_if m.params m.procs f p e; procedure = procedure_if m.params m.procs f p e }

-- among the declarations that a scope declares
pub declared_place : (ds : scope.Declarations) (n f : Name) (p : Proc) (l : Standing ds n f p) → declared ds ≡ declared l.front ++ (n, concrete_module l.found) ∷ declared l.after
declared_place ds n f p l = ap declared l.place ∙ declared-append l.front ((n, entry.Module l.found) ∷ l.after)

-- A procedure of a declared module that is given modules for its parameters.
pub record IsInstance (ds : scope.Declarations) (n f : Name) (es : List Mexp) (p : Proc) : Type 0 where
  pub found : Module
  pub there : module_of ds n ≡ Some found
  pub fit : suits ds found.params es ≡ true
  pub own : Proc
  pub procedure : proc_of found.procs f ≡ Some own
  pub is : instance found.params es own ≡ p

pub of_instance : (ds : scope.Declarations) (n f : Name) (es : List Mexp) (p : Proc) → instance_at ds (module_of ds n) es f ≡ Some p → IsInstance ds n f es p
of_instance ds n f es p e = by_found (module_of ds n) refl e
  where
    by_own : (m : Module) → module_of ds n ≡ Some m → suits ds m.params es ≡ true → (o : Option Proc) → proc_of m.procs f ≡ o → option_map (instance m.params es) o ≡ Some p → IsInstance ds n f es p
    by_own m h w None k e = none_some p e
    by_own m h w (Some x) k e = record { found = m; there = h; fit = w; own = x; procedure = k; is = same_some (instance m.params es x) p e }

    by_suits : (m : Module) → module_of ds n ≡ Some m → (b : Bool) → suits ds m.params es ≡ b → (if b then option_map (instance m.params es) (proc_of m.procs f) else None) ≡ Some p →
        IsInstance ds n f es p
    by_suits m h true w e = by_own m h w (proc_of m.procs f) refl e
    by_suits m h false w e = none_some p e

    by_found : (o : Option Module) → module_of ds n ≡ o → instance_at ds o es f ≡ Some p → IsInstance ds n f es p
    by_found None h e = none_some p e
    by_found (Some m) h e = by_suits m h (suits ds m.params es) refl e

-- the declarations before a module, and earlier procedures of its own
abbrev pub with_earlier : Context → Name → Module → Procedures ProcedureType → Context
with_earlier c n m front = record c { global = with_globals c.global n m.globals; modules = with_interface c.modules n (Some (interface_with c.modules.types m.params front)) }

-- a module without parameters sees nothing else
pub earlier_is : (c : Context) (n : Name) (m : Module) → m.name ≡ n → m.params ≡ [] → (front : Procedures ProcedureType) → in_module c m front ≡ with_earlier c n m front
earlier_is c n m own alone front = λ i. record c {
  global = with_globals c.global (own i) m.globals;
  modules = with_params (with_interface c.modules (own i) (Some (interface_with c.modules.types m.params front))) (alone i);
}

pub types_split : (ps xs ys : List Proc) → ps ≡ xs ++ ys → procedure_types ps ≡ procedure_types xs ++ procedure_types ys
types_split ps [] ys e = ap procedure_types e
types_split ps (x ∷ xs) ys e = ap procedure_types e ∙ ap (λ z. (x.name, type_of_procedure x) ∷ z) (types_split (xs ++ ys) xs ys refl)
