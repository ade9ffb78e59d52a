-- What is known of modules by declarations is known in contexts that know as much of their names.
use Rattle.std.proofs.Common.{◌≡◌, Bool, true, false, if◌then◌else◌, List, [], ◌∷◌, map, Option, Some, None, refl, ap, ◌∙◌}
use Rattle.std.proofs.lemmas.Bool.{and_from, and_parts, false≢true}
use Rattle.gb_terms.specs.declared.decl.Module.{Module}
use Rattle.gb_terms.specs.declared.decl.Param.{Param}
use Rattle.gb_terms.specs.declared.module.Mexp.{Mexp, Row_of-Mexp, end_of-Mexp, more_of-Mexp}
use Rattle.gb_terms.specs.declared.module.Mexp.TheVariants.{Name as named, Apply'}
use Rattle.gb_terms.specs.declared.module.ProcRef.{ProcRef}
use Rattle.gb_goal.specs.Scope.{Declarations, module_type_of}
use Rattle.gb_goal.specs.Interfaces as known
use Rattle.gb_goal.specs.Interfaces.{ProcedureType, Procedures, signature_types, signatures_of, params_in, are_none, provides, serves, takes, interface_of}
use Rattle.gb_meaning.specs.Names.{Name}
use Rattle.gb_meaning.specs.Declared.{ModuleType}
use Rattle.gb_typing.specs.Modules.{Interface, Modules, functor_type, is_complete, serve, fits, left_over, lacking, given, interface_at, interfaces_at, of_complete, procedure_of, procedure_type}
use Rattle.gb_typing.specs.Suits.{lacked}
use Rattle.gb_typing.proofs.Interfaces.{none_some, same_some}
use mathlib.Core.Former.{Count}

-- a module, where it is known what the names of module types stand for
abbrev pub resolved : (Name → Option ModuleType) → known.Interface → Interface
resolved types i = record { lacks = lacked types i.lacks; procedures = i.procedures }

pub complete_map : (f : Param → Procedures ProcedureType) (ps : List Param) → is_complete (map f ps) ≡ are_none ps
complete_map f [] = refl
complete_map f (p ∷ ps) = refl

module _ (ds : Declarations) (a : Option Module) (ms : Modules) (types : (n : Name) → ms.types n ≡ module_type_of ds n)
    (names : (n : Name) (i : known.Interface) → interface_of ds a n ≡ Some i → ms.interfaces n ≡ Some (resolved ms.types i)) where
  -- what a parameter's module type asks for
  abbrev asked : Param → Procedures ProcedureType
  asked p = signature_types (signatures_of (ms.types p.ty))

  asked_is : (p : Param) → asked p ≡ signature_types (signatures_of (module_type_of ds p.ty))
  asked_is p = ap (λ t. signature_types (signatures_of t)) (types p.ty)

  complete_is : (p : Param) → is_complete (functor_type ms.types (ms.types p.ty)).lacks ≡ are_none (params_in (module_type_of ds p.ty))
  complete_is p = complete_map asked (params_in (ms.types p.ty)) ∙ ap (λ t. are_none (params_in t)) (types p.ty)

  -- what a module lacks, the parameters of a module type give
  taken : (ps qs : List Param) → takes ds ps qs ≡ true → serve (map asked qs) (lacked ms.types ps) ≡ true
  taken [] [] e = refl
  taken (p ∷ ps) (q ∷ qs) e =
      let k = and_parts (serves (module_type_of ds q.ty) (module_type_of ds p.ty)) (takes ds ps qs) e in
      let l = and_parts (are_none (params_in (module_type_of ds p.ty))) (provides (signature_types (signatures_of (module_type_of ds q.ty))) (signature_types (signatures_of (module_type_of ds p.ty)))) k.0 in
      and_from _ _ (complete_is p ∙ l.0) (and_from _ _ ((λ i. provides (asked_is q i) (asked_is p i)) ∙ l.1) (taken ps qs k.1))
  taken [] (q ∷ qs) e = absurd (false≢true e)
  taken (p ∷ ps) [] e = absurd (false≢true e)

  -- a module fits a module type
  fitting : (o : Option known.Interface) (t : Option ModuleType) (x : Option Interface) → ((i : known.Interface) → o ≡ Some i → x ≡ Some (resolved ms.types i)) →
      known.fits ds o t ≡ true → fits x (functor_type ms.types t) ≡ true
  fitting None t x h e = absurd (false≢true e)
  fitting (Some i) None x h e = absurd (false≢true e)
  fitting (Some i) (Some t) x h e =
      let k = and_parts (takes ds i.lacks t.params) (provides i.procedures (signature_types t.signatures)) e in
      ap (λ z. fits z (functor_type ms.types (Some t))) (h i refl) ∙ and_from _ _ (taken i.lacks t.params k.0) k.1

  abbrev AreResolved : List (Option known.Interface) → List (Option Interface) → Type 0
  AreResolved [] [] = Unit {0}
  AreResolved (o ∷ os) (x ∷ xs) = ((i : known.Interface) → o ≡ Some i → x ≡ Some (resolved ms.types i)) × AreResolved os xs
  AreResolved _ _ = ⊥

  left_there : (ps : List Param) (os : List (Option known.Interface)) (xs : List (Option Interface)) → AreResolved os xs → (qs : List Param) → known.left_over ds ps os ≡ Some qs →
      left_over (lacked ms.types ps) xs ≡ Some (lacked ms.types qs)
  left_there ps [] [] h qs e = ap (λ z. Some (lacked ms.types z)) (same_some ps qs e)
  left_there ps [] (x ∷ xs) h qs e = absurd h
  left_there ps (o ∷ os) [] h qs e = absurd h
  left_there [] (o ∷ os) (x ∷ xs) h qs e = none_some qs e
  left_there (p ∷ ps) (o ∷ os) (x ∷ xs) h qs e = step (known.fits ds o (module_type_of ds p.ty)) refl e (λ e. left_there ps os xs h.1 qs e)
    where
      fit : known.fits ds o (module_type_of ds p.ty) ≡ true → fits x (functor_type ms.types (ms.types p.ty)) ≡ true
      fit f = ap (λ t. fits x (functor_type ms.types t)) (types p.ty) ∙ fitting o (module_type_of ds p.ty) x h.0 f

      step : (b : Bool) → known.fits ds o (module_type_of ds p.ty) ≡ b → (if b then known.left_over ds ps os else None) ≡ Some qs →
          (known.left_over ds ps os ≡ Some qs → left_over (lacked ms.types ps) xs ≡ Some (lacked ms.types qs)) →
          (if fits x (functor_type ms.types (ms.types p.ty)) then left_over (lacked ms.types ps) xs else None) ≡ Some (lacked ms.types qs)
      step true f e go = ap (λ (b : Bool). if b then left_over (lacked ms.types ps) xs else None) (fit f) ∙ go e
      step false f e go = none_some qs e

  left_agrees : (i j : known.Interface) (os : List (Option known.Interface)) (xs : List (Option Interface)) → AreResolved os xs → (o : Option (List Param)) → known.left_over ds j.lacks os ≡ o →
      known.lacking j o ≡ Some i → lacking (resolved ms.types j) (left_over (lacked ms.types j.lacks) xs) ≡ Some (resolved ms.types i)
  left_agrees i j os xs w None h e = none_some i e
  left_agrees i j os xs w (Some qs) h e =
      ap (lacking (resolved ms.types j)) (left_there j.lacks os xs w qs h) ∙ ap (λ z. Some (resolved ms.types z)) (same_some (record j { lacks = qs }) i e)

  given_agrees : (n : Name) (i : known.Interface) (os : List (Option known.Interface)) (xs : List (Option Interface)) → AreResolved os xs → (o : Option known.Interface) → interface_of ds a n ≡ o →
      known.given ds o os ≡ Some i → given (ms.interfaces n) xs ≡ Some (resolved ms.types i)
  given_agrees n i os xs w None h e = none_some i e
  given_agrees n i os xs w (Some j) h e = ap (λ z. given z xs) (names n j h) ∙ left_agrees i j os xs w (known.left_over ds j.lacks os) refl e

  mutual
    -- what a module expression lacks and has
    pub interface_agrees : (m : Mexp) (i : known.Interface) → known.interface_at ds a m ≡ Some i → interface_at ms m ≡ Some (resolved ms.types i)
    interface_agrees (named n) i e = names n i e
    interface_agrees (Apply' n k args) i e = given_agrees n i (known.interfaces_at ds a args) (interfaces_at ms args) (all_agree args) (interface_of ds a n) refl e

    all_agree : {n : Count} (r : Row_of-Mexp n) → AreResolved (known.interfaces_at ds a r) (interfaces_at ms r)
    all_agree end_of-Mexp = tt
    all_agree (more_of-Mexp m r) = (interface_agrees m, all_agree r)

  complete_there : (ps : List Param) (qs : Procedures ProcedureType) (n : Name) (t : ProcedureType) → known.of_complete ps qs n ≡ Some t → of_complete (lacked ms.types ps) qs n ≡ Some t
  complete_there [] qs n t e = e
  complete_there (p ∷ ps) qs n t e = none_some t e

  -- the type of the procedure that a reference means
  pub procedure_agrees : (r : ProcRef) (t : ProcedureType) → known.procedure_type ds a r ≡ Some t → procedure_type ms r ≡ Some t
  procedure_agrees r t e = by_module (known.interface_at ds a r.«module») refl e
    where
      by_module : (o : Option known.Interface) → known.interface_at ds a r.«module» ≡ o → known.procedure_in o r.name ≡ Some t → procedure_of (interface_at ms r.«module») r.name ≡ Some t
      by_module None h e = none_some t e
      by_module (Some i) h e = ap (λ z. procedure_of z r.name) (interface_agrees r.«module» i h) ∙ complete_there i.lacks i.procedures r.name t e
