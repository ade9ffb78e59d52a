-- The procedures that are known by declarations are of types of variables.
use Rattle.std.proofs.Common.{◌≡◌, Bool, true, false, if◌then◌else◌, List, [], ◌∷◌, ◌++◌, Option, Some, None, option_map, bytes_eq, refl, ap, ◌∙◌, subst}
use Rattle.gb_terms.specs.declared.decl.Module.{Module}
use Rattle.gb_terms.specs.declared.decl.Param.{Param}
use Rattle.gb_terms.specs.declared.decl.Proc.{Proc}
use Rattle.gb_terms.specs.declared.module.Mexp.{Mexp}
use Rattle.gb_terms.specs.declared.module.Mexp.TheVariants.{Name as named, Apply'}
use Rattle.gb_terms.specs.declared.module.ProcRef.{ProcRef}
use Rattle.gb_goal.specs.Scope as scope
use Rattle.gb_goal.specs.Scope.{as_module, entry_of, module_of, module_type_of}
use Rattle.gb_goal.specs.Interfaces as known
use Rattle.gb_goal.specs.Interfaces.{ProcedureType, Procedures, found, interface_of, of_declared, of_entry, of_inner, of_module, of_type, procedure_types, signature_types}
use Rattle.gb_goal.specs.declared.module_type.ModuleType.{ModuleType}
use Rattle.gb_goal.specs.declared.module_type.Signature.{Signature}
use Rattle.gb_goal.specs.declared.scope.Entry.{Entry}
use Rattle.gb_goal.specs.declared.scope.Entry.TheVariants as entry
use Rattle.gb_meaning.specs.Names.{Name}
use Rattle.gb_meaning.specs.Written.{local_type}
use Rattle.gb_laws.specs.Finite.{IsVariableType}
use Rattle.gb_meaning.specs.Declared.{Declarations, concrete_module, declaration_of, declared}
use Rattle.gb_typing.specs.Context.{Context}
use Rattle.gb_typing.specs.Modules.{Modules}
use Rattle.gb_typing.specs.Programs.{HaveVariableTypes}
use Rattle.gb_typing.specs.Scopes.{nothing, with_declared, with_each, context_of, AreProcedures, AreSignatures, AreTypedAfter, IsTypedScope}
use Rattle.gb_typing.proofs.Operators.{declared_last}
use Rattle.gb_typing.proofs.ParameterTypes.{type_in_scope}
use Rattle.gb_elab_laws.proofs.Given.{none_some, same_some}
use Rattle.gb_elab_laws.proofs.ModuleNames.{stays}
use Rattle.gb_elab_laws.proofs.Quantified.{have_front}

-- A declared module stands under its name with its globals, and its procedures are typed.
pub record Stands (d : Context) (n : Name) (m : Module) : Type 0 where
  pub context : Context
  pub procedures : AreProcedures context m [] m.procs
  pub globals : (x : Name) → d.global n x ≡ local_type m.globals x
  pub types : HaveVariableTypes m.globals

stands : (ds : scope.Declarations) (before : Declarations) (c : Context) → AreTypedAfter c before (declared ds) → (n : Name) (m : Module) → entry_of ds n ≡ Some (entry.Module m) →
    Stands (with_each c (declared ds)) n m
stands [] before c w n m e = none_some (entry.Module m) e
stands ((k, d) ∷ ds) before c w n m e = step (bytes_eq n k) refl (stands ds (before ++ (k, declaration_of d) ∷ []) (with_declared c k (declaration_of d)) w.2 n m) e
  where
    here : bytes_eq n k ≡ true → (x : Entry) → AreTypedAfter c before ((k, declaration_of x) ∷ declared ds) → x ≡ entry.Module m →
        Stands (with_each (with_declared c k (declaration_of x)) (declared ds)) n m
    here i (entry.Module r) v h =
        let s : r ≡ m = (let f : entry.Module r ≡ entry.Module m = h in cc) in
        let rest = stays ds (before ++ (k, concrete_module r) ∷ []) (with_declared c k (concrete_module r)) n (declared_last before (k, concrete_module r) n i) v.2 in
        subst (Stands (with_each (with_declared c k (concrete_module r)) (declared ds)) n) s (record {
          context = c;
          procedures = v.1.procs;
          globals = λ x. rest.globals x ∙ ap (λ (b : Bool). if b then local_type r.globals x else c.global n x) i;
          types = v.1.globals;
        })
    here i _ v h = cc

    step : (b : Bool) → bytes_eq n k ≡ b → (entry_of ds n ≡ Some (entry.Module m) → Stands (with_each (with_declared c k (declaration_of d)) (declared ds)) n m) →
        (if b then Some d else entry_of ds n) ≡ Some (entry.Module m) → Stands (with_each (with_declared c k (declaration_of d)) (declared ds)) n m
    step true i f h = here i d w (same_some d (entry.Module m) h)
    step false i f h = f h

module_entry : (ds : scope.Declarations) (n : Name) (m : Module) → module_of ds n ≡ Some m → entry_of ds n ≡ Some (entry.Module m)
module_entry ds n m e = step (entry_of ds n) refl e
  where
    step : (o : Option Entry) → entry_of ds n ≡ o → as_module o ≡ Some m → entry_of ds n ≡ Some (entry.Module m)
    step (Some (entry.Module r)) i h = i ∙ ap (λ z. Some (entry.Module z)) (same_some r m h)
    step _ i h = none_some m h

pub module_stands : (ds : scope.Declarations) → IsTypedScope (declared ds) → (n : Name) (m : Module) → module_of ds n ≡ Some m → Stands (context_of (declared ds)) n m
module_stands ds w n m e = stands ds [] nothing w n m (module_entry ds n m e)

-- Types of procedures.

-- all are of types of variables
abbrev pub AreOfVariables : Procedures ProcedureType → Type 0
AreOfVariables [] = Unit {0}
AreOfVariables (p ∷ ps) = (HaveVariableTypes p.1.params × IsVariableType p.1.result) × AreOfVariables ps

found_variable : (ps : Procedures ProcedureType) (n : Name) (t : ProcedureType) → AreOfVariables ps → found ps n ≡ Some t → HaveVariableTypes t.params × IsVariableType t.result
found_variable [] n t w e = none_some t e
found_variable (p ∷ ps) n t w e = step (bytes_eq n p.0) (found_variable ps n t w.1) e
  where
    step : (b : Bool) → (found ps n ≡ Some t → HaveVariableTypes t.params × IsVariableType t.result) → (if b then Some p.1 else found ps n) ≡ Some t → HaveVariableTypes t.params × IsVariableType t.result
    step true later f = subst (λ (u : ProcedureType). HaveVariableTypes u.params × IsVariableType u.result) (same_some p.1 t f) w.0
    step false later f = later f

signatures_variable : (ms : Modules) (ps : List Param) (ss : List Signature) → AreSignatures ms ps ss → AreOfVariables (signature_types ss)
signatures_variable ms ps [] w = tt
signatures_variable ms ps (s ∷ ss) w = ((w.0.0, w.0.1), signatures_variable ms ps ss w.2)

pub procedures_variable : (c : Context) (m : Module) (earlier : Procedures ProcedureType) (ps : List Proc) → AreProcedures c m earlier ps → AreOfVariables (procedure_types ps)
procedures_variable c m earlier [] w = tt
procedures_variable c m earlier (p ∷ ps) w =
    let typed = w.1 in
    let body = typed.body in
    ((have_front p.params p.locals body.locals, typed.result), procedures_variable c m (earlier ++ (p.name, known.type_of_procedure p) ∷ []) ps w.2)

-- those of the module around
abbrev pub AroundOfVariables : Option Module → Type 0
AroundOfVariables None = Unit {0}
AroundOfVariables (Some k) = AreOfVariables (procedure_types k.procs)

module _ (ds : scope.Declarations) (scoped : IsTypedScope (declared ds)) where
  -- Procedures of modules by their names.

  type_variable : (o : Option ModuleType) (n : Name) (i : known.Interface) → module_type_of ds n ≡ o → option_map of_type o ≡ Some i → AreOfVariables i.procedures
  type_variable None n i h e = none_some i e
  type_variable (Some t) n i h e =
      let s = type_in_scope ds scoped n t h in
      let typed = s.typed in
      let before = s.before in
      subst (λ (j : known.Interface). AreOfVariables j.procedures) (same_some (of_type t) i e) (signatures_variable before.modules t.params t.signatures typed.signatures)

  entry_variable : (o : Option Entry) (n : Name) (i : known.Interface) → entry_of ds n ≡ o → of_entry ds o ≡ Some i → AreOfVariables i.procedures
  entry_variable (Some (entry.Module m)) n i h e =
      let s = module_stands ds scoped n m (ap as_module h) in
      subst (λ (j : known.Interface). AreOfVariables j.procedures) (same_some (of_module m) i e) (procedures_variable s.context m [] m.procs s.procedures)
  entry_variable (Some (entry.AbstractModule b)) n i h e = type_variable (module_type_of ds b.ty) b.ty i refl e
  entry_variable _ n i h e = none_some i e

  inner_variable : (k : Module) → AreOfVariables (procedure_types k.procs) → (ps : List Param) (n : Name) (i : known.Interface) → of_inner ds k ps n ≡ Some i → AreOfVariables i.procedures
  inner_variable k w [] n i e = step (bytes_eq n k.name) e
    where
      step : (b : Bool) → (if b then Some (of_module k) else of_declared ds n) ≡ Some i → AreOfVariables i.procedures
      step true f = subst (λ (j : known.Interface). AreOfVariables j.procedures) (same_some (of_module k) i f) w
      step false f = entry_variable (entry_of ds n) n i refl f
  inner_variable k w (p ∷ ps) n i e = step (bytes_eq n p.name) (inner_variable k w ps n i) e
    where
      step : (b : Bool) → (of_inner ds k ps n ≡ Some i → AreOfVariables i.procedures) → (if b then option_map of_type (module_type_of ds p.ty) else of_inner ds k ps n) ≡ Some i → AreOfVariables i.procedures
      step true later f = type_variable (module_type_of ds p.ty) p.ty i refl f
      step false later f = later f

  name_variable : (a : Option Module) → AroundOfVariables a → (n : Name) (i : known.Interface) → interface_of ds a n ≡ Some i → AreOfVariables i.procedures
  name_variable None w n i e = entry_variable (entry_of ds n) n i refl e
  name_variable (Some k) w n i e = inner_variable k w k.params n i e

  -- Module expressions have the procedures of the modules that they apply.

  given_variable : (o : Option known.Interface) (os : List (Option known.Interface)) (i : known.Interface) → ((j : known.Interface) → o ≡ Some j → AreOfVariables j.procedures) → known.given ds o os ≡ Some i → AreOfVariables i.procedures
  given_variable None os i w e = none_some i e
  given_variable (Some j) os i w e = step (known.left_over ds j.lacks os) e
    where
      step : (l : Option (List Param)) → known.lacking j l ≡ Some i → AreOfVariables i.procedures
      step None f = none_some i f
      step (Some ps) f = subst (λ (z : known.Interface). AreOfVariables z.procedures) (same_some (record j { lacks = ps }) i f) (w j refl)

  at_variable : (a : Option Module) → AroundOfVariables a → (m : Mexp) (i : known.Interface) → known.interface_at ds a m ≡ Some i → AreOfVariables i.procedures
  at_variable a w (named n) i e = name_variable a w n i e
  at_variable a w (Apply' n k args) i e = given_variable (interface_of ds a n) (known.interfaces_at ds a args) i (name_variable a w n) e

  complete_variable : (ps : List Param) (qs : Procedures ProcedureType) (n : Name) (t : ProcedureType) → AreOfVariables qs → known.of_complete ps qs n ≡ Some t → HaveVariableTypes t.params × IsVariableType t.result
  complete_variable [] qs n t w e = found_variable qs n t w e
  complete_variable (p ∷ ps) qs n t w e = none_some t e

  -- what is known of a procedure, outside of modules or inside of one
  pub procedure_variable : (a : Option Module) → AroundOfVariables a → (r : ProcRef) (t : ProcedureType) → known.procedure_type ds a r ≡ Some t → HaveVariableTypes t.params × IsVariableType t.result
  procedure_variable a w r t e = step (known.interface_at ds a r.«module») refl e
    where
      step : (o : Option known.Interface) → known.interface_at ds a r.«module» ≡ o → known.procedure_in o r.name ≡ Some t → HaveVariableTypes t.params × IsVariableType t.result
      step None h f = none_some t f
      step (Some i) h f = complete_variable i.lacks i.procedures r.name t (at_variable a w r.«module» i h) f
