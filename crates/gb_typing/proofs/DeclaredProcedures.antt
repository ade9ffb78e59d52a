-- The context of a scope knows the procedures that declarations tell of, and no other ones.
use Rattle.std.proofs.Common.{◌≡◌, Bool, true, false, ◌&&◌, if◌then◌else◌, List, [], ◌∷◌, ◌++◌, map, Option, Some, None, bytes_eq, refl, ap, sym, ◌∙◌, subst}
use Rattle.std.specs.Option.{option_map}
use Rattle.gb_terms.specs.declared.decl.Module.{Module}
use Rattle.gb_terms.specs.declared.decl.Param.{Param}
use Rattle.gb_terms.specs.declared.decl.Proc.{Proc}
use Rattle.gb_terms.specs.declared.module.Bind.{Bind}
use Rattle.gb_terms.specs.declared.module.Mexp.{Mexp, Row_of-Mexp, end_of-Mexp, more_of-Mexp}
use Rattle.gb_terms.specs.declared.module.Mexp.TheVariants.{Name as named, Apply'}
use Rattle.gb_terms.specs.declared.module.ProcRef.{ProcRef}
use Rattle.gb_goal.specs.declared.scope.Entry.{Entry}
use Rattle.gb_goal.specs.declared.scope.Entry.TheVariants as entry
use Rattle.gb_goal.specs.Interfaces as known
use Rattle.gb_goal.specs.Interfaces.{Procedures, are_none, interface_of, of_entry, of_module, of_type, params_in, signature_types, signatures_of, takes}
use Rattle.gb_goal.specs.Scope as scope
use Rattle.gb_goal.specs.Scope.{as_module, entry_of, module_of, module_type_of, procedure_of}
use Rattle.gb_goal.proofs.Interfaces.{declared_types}
use Rattle.gb_meaning.specs.Names.{Name}
use Rattle.gb_meaning.specs.Declared.{Declarations, ModuleType, declaration_of, declared}
use Rattle.gb_meaning.specs.Holds.{declared_modules}
use Rattle.gb_meaning.specs.Naming.{EachCallOf}
use Rattle.gb_typing.specs.Context.{Context, procedure}
use Rattle.gb_typing.specs.Formulas.{IsKnown}
use Rattle.gb_typing.specs.Modules.{Interface, Modules, ProcedureType, fits, functor_type, given, interface_at, interfaces_at, is_complete, lacking, left_over, of_complete, procedure_type, provides, serve}
use Rattle.gb_typing.specs.Modules as typed
use Rattle.gb_typing.specs.Programs.{locals_of, type_of_procedure}
use Rattle.gb_typing.specs.Scopes.{nothing, with_declared, with_each, context_of, AreTypedAfter, IsTypedScope}
use Rattle.gb_typing.specs.Suits.{lacked}
use Rattle.gb_typing.proofs.AbstractModules.{abstract_in_scope, type_known}
use Rattle.gb_typing.proofs.Agreed.{complete_map, resolved}
use Rattle.gb_typing.proofs.Calls.{each_call}
use Rattle.gb_typing.proofs.DeclaredTypes.{scope_types}
use Rattle.gb_typing.proofs.Growing.{AreKnown, keeps_itself, params_later}
use Rattle.gb_typing.proofs.Interfaces.{none_some, same_some, cons_nil}
use Rattle.gb_typing.proofs.Known.{each_stays, one_stays}
use Rattle.gb_typing.proofs.Located.{known_in_scope, placed_at, typed_in_scope}
use Rattle.gb_typing.proofs.Operators.{declared_last}
use Rattle.gb_typing.proofs.ParameterTypes.{params_there, type_in_scope}
use Rattle.gb_typing.proofs.Standing.{module_place, stands}
use mathlib.Core.Former.{Count}

-- A context that knows what names stand for by declarations, and nothing else, where the module types of parameters are declared.
module _ (ds : scope.Declarations) (ms : Modules) (types : (n : Name) → ms.types n ≡ module_type_of ds n)
    (names : (n : Name) → ms.interfaces n ≡ option_map (resolved ms.types) (interface_of ds None n))
    (params : (n : Name) (i : known.Interface) → interface_of ds None n ≡ Some i → AreKnown ms.types i.lacks) where
  abbrev seen : known.Interface → Interface
  seen = resolved ms.types

  -- what a parameter's module type asks for
  abbrev asked : Param → Procedures ProcedureType
  asked p = signature_types (signatures_of (ms.types p.ty))

  asked_is : (p : Param) → asked p ≡ signature_types (signatures_of (module_type_of ds p.ty))
  asked_is p = ap (λ t. signature_types (signatures_of t)) (types p.ty)

  complete_is : (p : Param) → is_complete (functor_type ms.types (ms.types p.ty)).lacks ≡ are_none (params_in (module_type_of ds p.ty))
  complete_is p = complete_map asked (params_in (ms.types p.ty)) ∙ ap (λ t. are_none (params_in t)) (types p.ty)

  grouped : (a b c : Bool) → (a && (b && c)) ≡ ((a && b) && c)
  grouped true b c = refl
  grouped false b c = refl

  takes_is : (ps qs : List Param) → serve (map asked qs) (lacked ms.types ps) ≡ takes ds ps qs
  takes_is [] [] = refl
  takes_is [] (q ∷ qs) = refl
  takes_is (p ∷ ps) [] = refl
  takes_is (p ∷ ps) (q ∷ qs) =
      (λ i. complete_is p i && (provides (asked_is q i) (asked_is p i) && takes_is ps qs i))
      ∙ grouped (are_none (params_in (module_type_of ds p.ty))) (provides (signature_types (signatures_of (module_type_of ds q.ty))) (signature_types (signatures_of (module_type_of ds p.ty)))) (takes ds ps qs)

  fits_is : (o : Option known.Interface) (t : Option ModuleType) → IsKnown t → fits (option_map seen o) (functor_type ms.types t) ≡ known.fits ds o t
  fits_is o None k = absurd k
  fits_is None (Some t) k = refl
  fits_is (Some i) (Some t) k = ap (λ b. b && provides i.procedures (signature_types t.signatures)) (takes_is i.lacks t.params)

  left_is : (ps : List Param) → AreKnown ms.types ps → (os : List (Option known.Interface)) → left_over (lacked ms.types ps) (map (option_map seen) os) ≡ option_map (lacked ms.types) (known.left_over ds ps os)
  left_is ps k [] = refl
  left_is [] k (o ∷ os) = refl
  left_is (p ∷ ps) k (o ∷ os) =
      ap (λ (b : Bool). if b then left_over (lacked ms.types ps) (map (option_map seen) os) else None) fit ∙ step (known.fits ds o (module_type_of ds p.ty)) (left_is ps k.1 os)
    where
      fit : fits (option_map seen o) (functor_type ms.types (ms.types p.ty)) ≡ known.fits ds o (module_type_of ds p.ty)
      fit = ap (λ t. fits (option_map seen o) (functor_type ms.types t)) (types p.ty) ∙ fits_is o (module_type_of ds p.ty) (subst IsKnown (types p.ty) k.0)

      step : (b : Bool) → left_over (lacked ms.types ps) (map (option_map seen) os) ≡ option_map (lacked ms.types) (known.left_over ds ps os) →
          (if b then left_over (lacked ms.types ps) (map (option_map seen) os) else None) ≡ option_map (lacked ms.types) (if b then known.left_over ds ps os else None)
      step true h = h
      step false h = refl

  lacking_is : (i : known.Interface) (o : Option (List Param)) → lacking (seen i) (option_map (lacked ms.types) o) ≡ option_map seen (known.lacking i o)
  lacking_is i None = refl
  lacking_is i (Some ps) = refl

  given_is : (o : Option known.Interface) → ((i : known.Interface) → o ≡ Some i → AreKnown ms.types i.lacks) → (os : List (Option known.Interface)) →
      given (option_map seen o) (map (option_map seen) os) ≡ option_map seen (known.given ds o os)
  given_is None k os = refl
  given_is (Some i) k os = ap (lacking (seen i)) (left_is i.lacks (k i refl) os) ∙ lacking_is i (known.left_over ds i.lacks os)

  mutual
    -- what a module expression lacks and has
    interface_is : (m : Mexp) → interface_at ms m ≡ option_map seen (known.interface_at ds None m)
    interface_is (named n) = names n
    interface_is (Apply' n k args) =
        (λ i. given (names n i) (all_are args i)) ∙ given_is (interface_of ds None n) (params n) (known.interfaces_at ds None args)

    all_are : {n : Count} (r : Row_of-Mexp n) → interfaces_at ms r ≡ map (option_map seen) (known.interfaces_at ds None r)
    all_are end_of-Mexp = refl
    all_are (more_of-Mexp m r) = λ i. interface_is m i ∷ all_are r i

  complete_same : (ps : List Param) (qs : Procedures ProcedureType) (f : Name) → of_complete (lacked ms.types ps) qs f ≡ known.of_complete ps qs f
  complete_same [] qs f = refl
  complete_same (p ∷ ps) qs f = refl

  procedure_same : (o : Option known.Interface) (f : Name) → typed.procedure_of (option_map seen o) f ≡ known.procedure_in o f
  procedure_same None f = refl
  procedure_same (Some i) f = complete_same i.lacks i.procedures f

  -- the type of the procedure that a reference means
  pub type_is : (r : ProcRef) → procedure_type ms r ≡ known.procedure_type ds None r
  type_is r = ap (λ o. typed.procedure_of o r.name) (interface_is r.«module») ∙ procedure_same (known.interface_at ds None r.«module») r.name

-- Names under which no module is declared.

abbrev NoModule : Option Entry → Type 0
NoModule (Some (entry.Module m)) = ⊥
NoModule (Some (entry.AbstractModule b)) = ⊥
NoModule _ = Unit {0}

no_module : (c : Context) (n : Name) (e : Entry) (k : Name) → NoModule (Some e) → (with_declared c n (declaration_of e)).modules.interfaces k ≡ c.modules.interfaces k
no_module c n (entry.Module m) k h = absurd h
no_module c n (entry.AbstractModule b) k h = absurd h
no_module c n (entry.ModuleType t) k h = refl
no_module c n (entry.Lemma q order) k h = refl
no_module c n (entry.Type t) k h = refl
no_module c n entry.AbstractType k h = refl
no_module c n (entry.Constant x) k h = refl
no_module c n (entry.Operator o) k h = refl
no_module c n (entry.AbstractOperator o) k h = refl
no_module c n (entry.Terminating p) k h = refl

none_after : (ds : scope.Declarations) (before : Declarations) (c : Context) → AreTypedAfter c before (declared ds) → (k : Name) → c.modules.interfaces k ≡ None → NoModule (entry_of ds k) →
    (with_each c (declared ds)).modules.interfaces k ≡ None
none_after [] before c w k free e = free
none_after ((n, x) ∷ ds) before c w k free e =
    step (bytes_eq k n) refl e (λ free e. none_after ds (before ++ (n, declaration_of x) ∷ []) (with_declared c n (declaration_of x)) w.2 k free e)
  where
    next : Context
    next = with_declared c n (declaration_of x)

    step : (b : Bool) → bytes_eq k n ≡ b → NoModule (if b then Some x else entry_of ds k) →
        (next.modules.interfaces k ≡ None → NoModule (entry_of ds k) → (with_each next (declared ds)).modules.interfaces k ≡ None) → (with_each next (declared ds)).modules.interfaces k ≡ None
    step true h r go =
        each_stays (declared ds) (before ++ (n, declaration_of x) ∷ []) next w.2 k (declared_last before (n, declaration_of x) k h) ∙ no_module c n x k r ∙ free
    step false h r go = go (one_stays c n (declaration_of x) k w.1 h ∙ free) r

module _ (ds : scope.Declarations) (scoped : IsTypedScope (declared ds)) where
  abbrev c : Context
  c = context_of (declared ds)

  unknown : (n : Name) → interface_of ds None n ≡ None → c.modules.interfaces n ≡ None
  unknown n e = by_found (entry_of ds n) refl e
    where
      of_none : (o : Option Entry) → entry_of ds n ≡ o → NoModule o → c.modules.interfaces n ≡ None
      of_none o h w = none_after ds [] nothing scoped n refl (subst NoModule (sym h) w)

      of_abstract : (b : Bind) → entry_of ds n ≡ Some (entry.AbstractModule b) → (o : Option ModuleType) → module_type_of ds b.ty ≡ o → option_map of_type o ≡ None → c.modules.interfaces n ≡ None
      of_abstract b h None k e =
          let t = type_known c n b (abstract_in_scope ds scoped n b h) in
          none_some t.0 (sym (scope_types ds scoped b.ty ∙ k) ∙ t.1)
      of_abstract b h (Some t) k e = none_some (of_type t) (sym e)

      by_entry : (x : Entry) → entry_of ds n ≡ Some x → of_entry ds (Some x) ≡ None → c.modules.interfaces n ≡ None
      by_entry (entry.Module m) h e = none_some (of_module m) (sym e)
      by_entry (entry.AbstractModule b) h e = of_abstract b h (module_type_of ds b.ty) refl e
      by_entry (entry.ModuleType t) h e = of_none (Some (entry.ModuleType t)) h tt
      by_entry (entry.Lemma q order) h e = of_none (Some (entry.Lemma q order)) h tt
      by_entry (entry.Type t) h e = of_none (Some (entry.Type t)) h tt
      by_entry entry.AbstractType h e = of_none (Some entry.AbstractType) h tt
      by_entry (entry.Constant x) h e = of_none (Some (entry.Constant x)) h tt
      by_entry (entry.Operator o) h e = of_none (Some (entry.Operator o)) h tt
      by_entry (entry.AbstractOperator o) h e = of_none (Some (entry.AbstractOperator o)) h tt
      by_entry (entry.Terminating p) h e = of_none (Some (entry.Terminating p)) h tt

      by_found : (o : Option Entry) → entry_of ds n ≡ o → of_entry ds o ≡ None → c.modules.interfaces n ≡ None
      by_found None h e = of_none None h tt
      by_found (Some x) h e = by_entry x h e

  -- what a name stands for is what is known of it by declarations
  pub names_are : (n : Name) → c.modules.interfaces n ≡ option_map (resolved c.modules.types) (interface_of ds None n)
  names_are n = step (interface_of ds None n) refl
    where
      step : (o : Option known.Interface) → interface_of ds None n ≡ o → c.modules.interfaces n ≡ option_map (resolved c.modules.types) o
      step None e = unknown n e
      step (Some i) e = known_in_scope ds scoped n i e

  params_are : (n : Name) (i : known.Interface) → interface_of ds None n ≡ Some i → AreKnown c.modules.types i.lacks
  params_are n i e = by_found (entry_of ds n) refl e
    where
      of_found : (m : Module) → module_of ds n ≡ Some m → Some (of_module m) ≡ Some i → AreKnown c.modules.types i.lacks
      of_found m h e =
          let l = stands ds n m h in
          subst (λ (j : known.Interface). AreKnown c.modules.types j.lacks) (same_some (of_module m) i e)
          (params_later (context_of (declared l.front)) n m c (placed_at ds scoped c (keeps_itself c) (scope_types ds scoped) n m l.front l.after (module_place ds n m l)))

      of_abstract : (b : Bind) (o : Option ModuleType) → module_type_of ds b.ty ≡ o → option_map of_type o ≡ Some i → AreKnown c.modules.types i.lacks
      of_abstract b None k e = none_some i e
      of_abstract b (Some t) k e =
          subst (λ (j : known.Interface). AreKnown c.modules.types j.lacks) (same_some (of_type t) i e) (params_there c t (type_in_scope ds scoped b.ty t k))

      by_entry : (x : Entry) → entry_of ds n ≡ Some x → of_entry ds (Some x) ≡ Some i → AreKnown c.modules.types i.lacks
      by_entry (entry.Module m) h e = of_found m (ap as_module h) e
      by_entry (entry.AbstractModule b) h e = of_abstract b (module_type_of ds b.ty) refl e
      by_entry _ h e = none_some i e

      by_found : (o : Option Entry) → entry_of ds n ≡ o → of_entry ds o ≡ Some i → AreKnown c.modules.types i.lacks
      by_found None h e = none_some i e
      by_found (Some x) h e = by_entry x h e

  -- the type of a procedure, in the context of the scope, is the one that is known by declarations
  pub known_is : (r : ProcRef) → procedure c r ≡ known.procedure_type ds None r
  known_is r = type_is ds c.modules (scope_types ds scoped) names_are params_are r

  module _ (P : ProcRef → Type 0) (all : (q : ProcRef) (t : ProcedureType) → procedure c q ≡ Some t → P q) where
    calls_are : (r : ProcRef) (p : Proc) → procedure_of ds r ≡ Some p → EachCallOf P p.body.list
    calls_are r p e = each_call c (locals_of p) P all p.body.list (let t = (let x = typed_in_scope ds scoped r p e in x.typed) in (let b = t.body in b.statements))

  -- what a declared procedure calls has a type
  pub calls_typed : (r : ProcRef) (p : Proc) → procedure_of ds r ≡ Some p → EachCallOf (λ q. (t : ProcedureType) × (known.procedure_type ds None q ≡ Some t)) p.body.list
  calls_typed r p e = calls_are (λ q. (t : ProcedureType) × (known.procedure_type ds None q ≡ Some t)) (λ q t h. (t, sym (known_is q) ∙ h)) r p e

-- Scopes without abstract modules.

none_behind : (n : Name) (x : Entry) (ds : scope.Declarations) → declared_modules ((n, declaration_of x) ∷ declared ds) ≡ [] → declared_modules (declared ds) ≡ []
none_behind n (entry.AbstractModule b) ds e = cons_nil b (declared_modules (declared ds)) e
none_behind n _ ds e = e

pub no_abstract : {P : Type 0} (ds : scope.Declarations) → declared_modules (declared ds) ≡ [] → (n : Name) (b : Bind) → entry_of ds n ≡ Some (entry.AbstractModule b) → P
no_abstract [] none n b e = none_some (entry.AbstractModule b) e
no_abstract {P} ((h, x) ∷ ds) none n b e = step (bytes_eq n h) (no_abstract ds (none_behind h x ds none) n b) e
  where
    step : (t : Bool) → (entry_of ds n ≡ Some (entry.AbstractModule b) → P) → (if t then Some x else entry_of ds n) ≡ Some (entry.AbstractModule b) → P
    step true later f =
        cons_nil b (declared_modules (declared ds)) (subst (λ (z : Entry). declared_modules ((h, declaration_of z) ∷ declared ds) ≡ []) (same_some x (entry.AbstractModule b) f) none)
    step false later f = later f

-- what is known of a name is what is declared as a module
pub modules_alone : (ds : scope.Declarations) → declared_modules (declared ds) ≡ [] → (n : Name) → interface_of ds None n ≡ option_map of_module (module_of ds n)
modules_alone ds none n = by_found (entry_of ds n) refl
  where
    by_entry : (x : Entry) → entry_of ds n ≡ Some x → of_entry ds (Some x) ≡ option_map of_module (as_module (Some x))
    by_entry (entry.AbstractModule b) h = no_abstract ds none n b h
    by_entry (entry.Module m) h = refl
    by_entry (entry.ModuleType t) h = refl
    by_entry (entry.Lemma q order) h = refl
    by_entry (entry.Type t) h = refl
    by_entry entry.AbstractType h = refl
    by_entry (entry.Constant x) h = refl
    by_entry (entry.Operator o) h = refl
    by_entry (entry.AbstractOperator o) h = refl
    by_entry (entry.Terminating p) h = refl

    by_found : (o : Option Entry) → entry_of ds n ≡ o → of_entry ds o ≡ option_map of_module (as_module o)
    by_found None h = refl
    by_found (Some x) h = by_entry x h

module _ (ds : scope.Declarations) (scoped : IsTypedScope (declared ds)) (none : declared_modules (declared ds) ≡ []) where
  abbrev scope_context : Context
  scope_context = context_of (declared ds)

  -- a module that is known is declared
  pub module_if : (n : Name) → IsKnown (scope_context.modules.interfaces n) → (m : Module) × (module_of ds n ≡ Some m)
  module_if n k = step (module_of ds n) refl
    where
      step : (o : Option Module) → module_of ds n ≡ o → (m : Module) × (module_of ds n ≡ Some m)
      step None e =
          absurd (subst IsKnown (names_are ds scoped n ∙ ap (option_map (resolved scope_context.modules.types)) (modules_alone ds none n ∙ ap (option_map of_module) e)) k)
      step (Some m) e = (m, e)

  -- the type of a procedure, in the context of the scope, is that of the declared one
  pub declared_is : (r : ProcRef) → procedure scope_context r ≡ option_map type_of_procedure (procedure_of ds r)
  declared_is r = known_is ds scoped r ∙ declared_types ds (modules_alone ds none) r

  pub declared_if : (r : ProcRef) (t : ProcedureType) → procedure scope_context r ≡ Some t → (p : Proc) × (procedure_of ds r ≡ Some p)
  declared_if r t e = step (procedure_of ds r) refl
    where
      step : (o : Option Proc) → procedure_of ds r ≡ o → (p : Proc) × (procedure_of ds r ≡ Some p)
      step None h = none_some t (sym (declared_is r ∙ ap (option_map type_of_procedure) h) ∙ e)
      step (Some p) h = (p, h)

  -- what a declared procedure calls is declared
  pub calls_declared : (r : ProcRef) (p : Proc) → procedure_of ds r ≡ Some p → EachCallOf (λ q. (f : Proc) × (procedure_of ds q ≡ Some f)) p.body.list
  calls_declared r p e = calls_are ds scoped (λ q. (f : Proc) × (procedure_of ds q ≡ Some f)) declared_if r p e
