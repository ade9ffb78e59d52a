-- The type of a procedure, from outside, is the one that it is declared with.
use Rattle.std.proofs.Common.{◌≡◌, ◌↔◌, IsTrue, ℕ, zero, suc, ◌+◌, ◌<◌, arith, length, drop, get_or, sym, Bool, true, false, ◌&&◌, if◌then◌else◌, bytes_eq, List, [], ◌∷◌, map, Option, Some, None, refl, ap, ◌∙◌}
use Rattle.std.specs.Option.{option_map}
use Rattle.std.proofs.lemmas.Bool.Decides.{same_from_decides}
use Rattle.std.proofs.lemmas.List.{at_drop_more}
use Rattle.std.proofs.lemmas.Slice.Eq.{bytes_eq-Decides}
use Rattle.gb_terms.specs.declared.decl.Module.{Module}
use Rattle.gb_terms.specs.declared.decl.Param.{Param}
use Rattle.gb_terms.specs.declared.decl.Proc.{Proc}
use Rattle.gb_terms.specs.declared.module.Mexp.{Mexp, Row_of-Mexp, end_of-Mexp, more_of-Mexp, items-the_row-Mexp, items_hidden-the_row-Mexp-0}
use Rattle.gb_terms.specs.declared.module.Mexp.TheBlock as M
use Rattle.gb_terms.specs.declared.module.Mexp.TheVariants.{Name, Apply, Apply'}
use Rattle.gb_terms.specs.declared.module.ProcRef.{ProcRef}
use Rattle.gb_terms.specs.Rows.{mexps_in}
use Rattle.gb_goal.specs.declared.scope.Entry.{Entry}
use Rattle.gb_goal.specs.declared.scope.Entry.TheVariants as entry
use Rattle.gb_goal.specs.Entries.{Declarations, as_module, entry_of, module_of, module_type_of, proc_of}
use Rattle.gb_goal.specs.Instances.{instance}
use Rattle.gb_goal.specs.Interfaces.{Interface, fits, found, given, interface_at, interface_of, interfaces_at, lacking, left_over, of_complete, of_declared, of_entry, of_inner, of_module, of_type, procedure_in, procedure_type, procedure_types, suits, type_of_procedure}
use Rattle.gb_goal.proofs.Instances.{arguments_are}
use Rattle.gb_goal.specs.Scope.{instance_at, proc_at, proc_if_plain, proc_in, procedure_of}
use mathlib.Core.Former.{Count}

types_found : (ps : List Proc) (n : List ℕ) → found (procedure_types ps) n ≡ option_map type_of_procedure (proc_of ps n)
types_found [] n = refl
types_found (p ∷ ps) n = step (bytes_eq n p.name) (types_found ps n)
  where
    step : (b : Bool) → found (procedure_types ps) n ≡ option_map type_of_procedure (proc_of ps n) →
        (if b then Some (type_of_procedure p) else found (procedure_types ps) n) ≡ option_map type_of_procedure (if b then Some p else proc_of ps n)
    step true h = refl
    step false h = h

-- A test that is true exactly at equal names is that of their bytes.
name_test : (b : Bool) (m n : List ℕ) → IsTrue b ↔ (m ≡ n) → b ≡ bytes_eq m n
name_test b m n h = same_from_decides b (bytes_eq m n) h (bytes_eq-Decides m n)

-- what a name stands for inside of a module, by the next of its parameters
pub inner_next : (ds : Declarations) (m : Module) (ps : List Param) (i : ℕ) (p : Param) (n : List ℕ) → i < length ps → p ≡ get_or ps i p → (b : Bool) → IsTrue b ↔ (n ≡ p.name) →
    of_inner ds m (drop i ps) n ≡ (if b then option_map of_type (module_type_of ds p.ty) else of_inner ds m (drop (i + 1) ps) n)
inner_next ds m ps i p n h e b t =
    at_drop_more (λ z. of_inner ds m z n) ps i p h ∙ ap (λ z. of_inner ds m (z ∷ drop (i + 1) ps) n) (sym e)
    ∙ ap (λ (c : Bool). if c then option_map of_type (module_type_of ds p.ty) else of_inner ds m (drop (i + 1) ps) n) (sym (name_test b n p.name t))

none_left : (ps : List Param) (i : ℕ) → (i < length ps → ⊥) → drop i ps ≡ []
none_left [] zero h = refl
none_left [] (suc i) h = refl
none_left (p ∷ ps) zero h = absurd (h (omega arith))
none_left (p ∷ ps) (suc i) h = none_left ps i (λ k. h (omega (arith, k)))

-- .. behind all of them
pub inner_end : (ds : Declarations) (m : Module) (ps : List Param) (i : ℕ) (n : List ℕ) → (i < length ps → ⊥) → (b : Bool) → IsTrue b ↔ (n ≡ m.name) →
    of_inner ds m (drop i ps) n ≡ (if b then Some (of_module m) else of_declared ds n)
inner_end ds m ps i n h b t =
    ap (λ z. of_inner ds m z n) (none_left ps i h) ∙ ap (λ (c : Bool). if c then Some (of_module m) else of_declared ds n) (sym (name_test b n m.name t))

-- applications to lists of modules

pub applied_at : (ds : Declarations) (a : Option Module) (n : List ℕ) (es : List Mexp) → interface_at ds a (Apply n es) ≡ given ds (interface_of ds a n) (map (interface_at ds a) es)
applied_at ds a n es = ap (given ds (interface_of ds a n)) (row_is (M.hidden-the_row-Mexp-0 es) ∙ ap (map (interface_at ds a)) (items_hidden-the_row-Mexp-0 es))
  where
    row_is : {k : Count} (r : Row_of-Mexp k) → interfaces_at ds a r ≡ map (interface_at ds a) (items-the_row-Mexp _ r)
    row_is end_of-Mexp = refl
    row_is (more_of-Mexp m r) = ap (λ z. interface_at ds a m ∷ z) (row_is r)

pub proc_applied : (ds : Declarations) (m : List ℕ) (es : List Mexp) (n : List ℕ) → proc_at ds (Apply m es) n ≡ instance_at ds (module_of ds m) es n
proc_applied ds m es n = ap (λ z. instance_at ds (module_of ds m) z n) (arguments_are m es)

module _ (ds : Declarations) where
  row_interfaces : {k : Count} (r : Row_of-Mexp k) → interfaces_at ds None r ≡ map (interface_at ds None) (mexps_in r)
  row_interfaces end_of-Mexp = refl
  row_interfaces (more_of-Mexp m r) = ap (λ z. interface_at ds None m ∷ z) (row_interfaces r)

  -- a module with modules for its parameters lacks nothing where these suit them
  applied_in : (i : Interface) (ps : List Param) (es : List Mexp) (n : List ℕ) →
      procedure_in (lacking i (left_over ds ps (map (interface_at ds None) es))) n ≡ (if suits ds ps es then found i.procedures n else None)
  applied_in i [] [] n = refl
  applied_in i (p ∷ ps) [] n = refl
  applied_in i [] (e ∷ es) n = refl
  applied_in i (p ∷ ps) (e ∷ es) n = step (fits ds (interface_at ds None e) (module_type_of ds p.ty)) (applied_in i ps es n)
    where
      step : (b : Bool) → procedure_in (lacking i (left_over ds ps (map (interface_at ds None) es))) n ≡ (if suits ds ps es then found i.procedures n else None) →
          procedure_in (lacking i (if b then left_over ds ps (map (interface_at ds None) es) else None)) n ≡ (if b && suits ds ps es then found i.procedures n else None)
      step true h = h
      step false h = refl

  instance_types : (m : Module) (es : List Mexp) (n : List ℕ) (b : Bool) →
      (if b then found (procedure_types m.procs) n else None) ≡ option_map type_of_procedure (if b then option_map (instance m.params es) (proc_of m.procs n) else None)
  instance_types m es n true = types_found m.procs n ∙ step (proc_of m.procs n)
    where
      step : (o : Option Proc) → option_map type_of_procedure o ≡ option_map type_of_procedure (option_map (instance m.params es) o)
      step None = refl
      step (Some p) = refl
  instance_types m es n false = refl

  applied_types : (o : Option Module) (es : List Mexp) (n : List ℕ) →
      procedure_in (given ds (option_map of_module o) (map (interface_at ds None) es)) n ≡ option_map type_of_procedure (instance_at ds o es n)
  applied_types None es n = refl
  applied_types (Some m) es n = applied_in (of_module m) m.params es n ∙ instance_types m es n (suits ds m.params es)

plain_types : (ps : List Param) (fs : List Proc) (n : List ℕ) → of_complete ps (procedure_types fs) n ≡ option_map type_of_procedure (proc_if_plain ps fs n)
plain_types [] fs n = types_found fs n
plain_types (p ∷ ps) fs n = refl

named_types : (o : Option Module) (n : List ℕ) → procedure_in (option_map of_module o) n ≡ option_map type_of_procedure (proc_in o n)
named_types None n = refl
named_types (Some m) n = plain_types m.params m.procs n

-- Where each name that is known is that of a declared module, a reference to a procedure has a type where it means a declared one.
module _ (ds : Declarations) (names : (n : List ℕ) → interface_of ds None n ≡ option_map of_module (module_of ds n)) where
  all_types_at : (m : Mexp) (n : List ℕ) → procedure_in (interface_at ds None m) n ≡ option_map type_of_procedure (proc_at ds m n)
  all_types_at (Name m) n = ap (λ o. procedure_in o n) (names m) ∙ named_types (module_of ds m) n
  all_types_at (Apply' m k args) n =
      (λ i. procedure_in (given ds (names m i) (row_interfaces ds args i)) n) ∙ applied_types ds (module_of ds m) (mexps_in args) n

  pub declared_types : (r : ProcRef) → procedure_type ds None r ≡ option_map type_of_procedure (procedure_of ds r)
  declared_types r = all_types_at r.«module» r.name

module _ (ds : Declarations) where
  module_known : (e : Option Entry) (x : Module) → as_module e ≡ Some x → of_entry ds e ≡ Some (of_module x)
  module_known None x h = absurd (cc)
  module_known (Some (entry.Module m)) x h = ap (option_map of_module) h
  module_known (Some (entry.AbstractModule b)) x h = absurd (cc)
  module_known (Some (entry.ModuleType t)) x h = absurd (cc)
  module_known (Some (entry.Lemma q bs)) x h = absurd (cc)
  module_known (Some (entry.Type t)) x h = absurd (cc)
  module_known (Some entry.AbstractType) x h = absurd (cc)
  module_known (Some (entry.Constant c)) x h = absurd (cc)
  module_known (Some (entry.Operator o)) x h = absurd (cc)
  module_known (Some (entry.AbstractOperator o)) x h = absurd (cc)
  module_known (Some (entry.Terminating f)) x h = absurd (cc)

  -- what is known of a declared module
  pub declared_module : (n : List ℕ) (x : Module) → module_of ds n ≡ Some x → interface_of ds None n ≡ Some (of_module x)
  declared_module n x h = module_known (entry_of ds n) x h

  types_at : (m : Mexp) (n : List ℕ) (p : Proc) → proc_at ds m n ≡ Some p → procedure_in (interface_at ds None m) n ≡ Some (type_of_procedure p)
  types_at (Name m) n p e = by_module (module_of ds m) refl e
    where
      by_module : (o : Option Module) → module_of ds m ≡ o → proc_in o n ≡ Some p → procedure_in (interface_of ds None m) n ≡ Some (type_of_procedure p)
      by_module None h e = absurd (cc)
      by_module (Some x) h e = ap (λ i. procedure_in i n) (declared_module m x h) ∙ plain_types x.params x.procs n ∙ ap (option_map type_of_procedure) e
  types_at (Apply' m k args) n p e = by_module (module_of ds m) refl e
    where
      by_module : (o : Option Module) → module_of ds m ≡ o → instance_at ds o (mexps_in args) n ≡ Some p →
          procedure_in (given ds (interface_of ds None m) (interfaces_at ds None args)) n ≡ Some (type_of_procedure p)
      by_module None h e = absurd (cc)
      by_module (Some x) h e =
          ap (λ is. procedure_in (given ds (interface_of ds None m) is) n) (row_interfaces ds args)
          ∙ ap (λ i. procedure_in (given ds i (map (interface_at ds None) (mexps_in args))) n) (declared_module m x h)
          ∙ applied_types ds (Some x) (mexps_in args) n ∙ ap (option_map type_of_procedure) e

  -- the type of the declared procedure that a reference means, outside of modules
  pub declared_type : (r : ProcRef) (p : Proc) → procedure_of ds r ≡ Some p → procedure_type ds None r ≡ Some (type_of_procedure p)
  declared_type r p e = types_at r.«module» r.name p e
