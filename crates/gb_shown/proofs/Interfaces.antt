-- What is known of modules from outside is named in a named scope, inside of a named module or outside.
use Rattle.std.proofs.Common.{◌≡◌, Bool, true, false, if◌then◌else◌, bytes_eq, List, [], ◌∷◌, Option, Some, None, refl, ap, ◌∙◌, subst}
use Rattle.std.specs.List.{AllByRecursion}
use Rattle.std.specs.Option.{option_map}
use Rattle.std.proofs.lemmas.Slice.Eq.{bytes_eq-Decides}
use Rattle.gb_terms.specs.declared.decl.Module.{Module}
use Rattle.gb_terms.specs.declared.decl.Param.{Param}
use Rattle.gb_terms.specs.declared.decl.Proc.{Proc}
use Rattle.gb_terms.specs.declared.module.Mexp.{Mexp}
use Rattle.gb_terms.specs.declared.module.Mexp.TheVariants.{Name as named, Apply'}
use Rattle.gb_terms.specs.declared.module.ProcRef.{ProcRef}
use Rattle.gb_goal.specs.Interfaces.{Interface, Procedures, ProcedureType, found, given, interface_at, interface_of, interfaces_at, lacking, left_over, of_complete, of_declared, of_entry, of_inner, of_module, of_type, procedure_in, procedure_type, procedure_types, signature_types, type_of_procedure}
use Rattle.gb_goal.specs.Scope.{Declarations, entry_of, module_type_of}
use Rattle.gb_goal.specs.declared.module_type.ModuleType.{ModuleType}
use Rattle.gb_goal.specs.declared.module_type.Signature.{Signature}
use Rattle.gb_goal.specs.declared.scope.Entry.{Entry}
use Rattle.gb_goal.specs.declared.scope.Entry.TheVariants as entry
use Rattle.gb_meaning.specs.Names.{Name}
use Rattle.gb_print_names.specs.declared.bound_names.Enumeration.{Enumeration}
use Rattle.gb_print.specs.Written.{is_name_text, is_path}
use Rattle.gb_shown.specs.Scopes.{AreNamedTypes, IsNamedAround, IsNamedInterface, IsNamedMember, IsNamedModule, IsNamedParam, IsNamedProcedureType, IsNamedScope, IsNamedSignature}
use Rattle.gb_shown.proofs.FoundInForms.{entry_found, path_of, type_signatures}
use Rattle.gb_shown.proofs.FoundInScopes.{params_named}
use Rattle.gb_shown.proofs.Given.{same_some}

-- the procedure of this name among named ones
pub found_named : (ps : Procedures ProcedureType) → AreNamedTypes ps → (x : Name) (t : ProcedureType) → found ps x ≡ Some t → (is_name_text x ≡ true) × IsNamedProcedureType t
found_named [] k x t e = cc
found_named (p ∷ ps) k x t e = step (bytes_eq x p.0) refl (found_named ps k.1 x t) e
  where
    step : (b : Bool) → bytes_eq x p.0 ≡ b → (found ps x ≡ Some t → (is_name_text x ≡ true) × IsNamedProcedureType t) → (if b then Some p.1 else found ps x) ≡ Some t →
        (is_name_text x ≡ true) × IsNamedProcedureType t
    step true i later f = (ap is_name_text ((bytes_eq-Decides x p.0).0 i) ∙ k.0.0, subst IsNamedProcedureType (same_some f) k.0.1)
    step false i later f = later f

complete_named : (qs : List Param) (ps : Procedures ProcedureType) → AreNamedTypes ps → (x : Name) (t : ProcedureType) → of_complete qs ps x ≡ Some t → IsNamedProcedureType t
complete_named [] ps k x t e = (found_named ps k x t e).1
complete_named (q ∷ qs) ps k x t e = cc

signatures_typed : (ss : List Signature) → AllByRecursion IsNamedSignature ss → AreNamedTypes (signature_types ss)
signatures_typed [] k = tt
signatures_typed (s ∷ ss) k = let n = k.0 in ((n.name, n.typed), signatures_typed ss k.1)

-- any module of a module type
of_type_named : (t : ModuleType) → AllByRecursion IsNamedSignature t.signatures → IsNamedInterface (of_type t)
of_type_named t k = signatures_typed t.signatures k

module _ (es : List Enumeration) where
  member_typed : (p : Proc) → IsNamedMember es p → IsNamedProcedureType (type_of_procedure p)
  member_typed p k = let n = k.procedure in record { params = params_named es p k; result = n.result }

  procs_typed : (ps : List Proc) → AllByRecursion (IsNamedMember es) ps → AreNamedTypes (procedure_types ps)
  procs_typed [] k = tt
  procs_typed (p ∷ ps) k = let n = k.0 in ((n.name, member_typed p n), procs_typed ps k.1)

  of_module_named : (m : Module) → IsNamedModule es m → IsNamedInterface (of_module m)
  of_module_named m k = procs_typed m.procs k.procs

  module _ (ds : Declarations) (k : IsNamedScope es ds) where
    -- what a name stands for
    abbrev Known : Name → Interface → Type 0
    Known x i = (is_path x ≡ true) × IsNamedInterface i

    parameter_named : (o : Option ModuleType) → ((t : ModuleType) → o ≡ Some t → AllByRecursion IsNamedSignature t.signatures) → (i : Interface) → option_map of_type o ≡ Some i → IsNamedInterface i
    parameter_named (Some t) n i e = subst IsNamedInterface (same_some e) (of_type_named t (n t refl))
    parameter_named None n i e = cc

    declared_known : (x : Name) (i : Interface) → of_declared ds x ≡ Some i → Known x i
    declared_known x i e = step (entry_of ds x) refl e
      where
        step : (o : Option Entry) → entry_of ds x ≡ o → of_entry ds o ≡ Some i → Known x i
        step (Some (entry.Module m)) j f = let n = entry_found es ds k x (entry.Module m) j in (n.0, subst IsNamedInterface (same_some f) (of_module_named m n.1))
        step (Some (entry.AbstractModule b)) j f =
            let n = entry_found es ds k x (entry.AbstractModule b) j in (n.0, parameter_named (module_type_of ds b.ty) (λ t u. type_signatures es ds k b.ty t u) i f)
        step _ j f = cc

    inner_known : (m : Module) → IsNamedModule es m → (qs : List Param) → AllByRecursion IsNamedParam qs → (x : Name) (i : Interface) → of_inner ds m qs x ≡ Some i → Known x i
    inner_known m n [] c x i e = step (bytes_eq x m.name) refl e
      where
        step : (b : Bool) → bytes_eq x m.name ≡ b → (if b then Some (of_module m) else of_declared ds x) ≡ Some i → Known x i
        step true j f = (ap is_path ((bytes_eq-Decides x m.name).0 j) ∙ path_of m.name n.name, subst IsNamedInterface (same_some f) (of_module_named m n))
        step false j f = declared_known x i f
    inner_known m n (q ∷ qs) c x i e = step (bytes_eq x q.name) refl (inner_known m n qs c.1 x i) e
      where
        step : (b : Bool) → bytes_eq x q.name ≡ b → (of_inner ds m qs x ≡ Some i → Known x i) → (if b then option_map of_type (module_type_of ds q.ty) else of_inner ds m qs x) ≡ Some i → Known x i
        step true j later f =
            (ap is_path ((bytes_eq-Decides x q.name).0 j) ∙ path_of q.name c.0, parameter_named (module_type_of ds q.ty) (λ t u. type_signatures es ds k q.ty t u) i f)
        step false j later f = later f

    pub name_known : (a : Option Module) → IsNamedAround es a → (x : Name) (i : Interface) → interface_of ds a x ≡ Some i → Known x i
    name_known None n x i e = declared_known x i e
    name_known (Some m) n x i e = inner_known m n m.params n.params x i e

    given_named : (o : Option Interface) → ((j : Interface) → o ≡ Some j → IsNamedInterface j) → (is : List (Option Interface)) (i : Interface) → given ds o is ≡ Some i → IsNamedInterface i
    given_named None n is i e = cc
    given_named (Some j) n is i e = step (left_over ds j.lacks is) e
      where
        step : (l : Option (List Param)) → lacking j l ≡ Some i → IsNamedInterface i
        step None f = cc
        step (Some ps) f = subst IsNamedInterface {x = record j { lacks = ps }} (same_some f) (n j refl)

    -- a module expression
    expression_known : (a : Option Module) → IsNamedAround es a → (m : Mexp) (i : Interface) → interface_at ds a m ≡ Some i → IsNamedInterface i
    expression_known a n (named x) i e = (name_known a n x i e).1
    expression_known a n (Apply' x c args) i e = given_named (interface_of ds a x) (λ j f. (name_known a n x j f).1) (interfaces_at ds a args) i e

    procedure_named : (o : Option Interface) → ((i : Interface) → o ≡ Some i → IsNamedInterface i) → (x : Name) (t : ProcedureType) → procedure_in o x ≡ Some t → IsNamedProcedureType t
    procedure_named None n x t e = cc
    procedure_named (Some i) n x t e = complete_named i.lacks i.procedures (n i refl) x t e

    -- the types of a procedure of declared modules
    pub type_known : (f : ProcRef) (t : ProcedureType) → procedure_type ds None f ≡ Some t → IsNamedProcedureType t
    type_known f t e = procedure_named (interface_at ds None f.«module») (λ i j. expression_known None tt f.«module» i j) f.name t e
