-- The parameters of a module type may be left open: modules of their types fit what a module lacks, where these parameters give it.
use Rattle.std.proofs.Common.{◌≡◌, inl, inr, Bool, true, false, ◌&&◌, if◌then◌else◌, List, [], ◌∷◌, map, Option, Some, None, refl, ap, sym, ◌∙◌, subst}
use Rattle.std.proofs.lemmas.Bool.{false≢true, and_from, and_parts}
use Rattle.std.proofs.lemmas.Option.{none-some}
use Rattle.gb_terms.specs.declared.decl.Param.{Param}
use Rattle.gb_terms.specs.declared.module.Mexp.{Mexp}
use Rattle.gb_terms.specs.declared.term.Term.{Term}
use Rattle.gb_goal.specs.Interfaces as known
use Rattle.gb_goal.specs.Interfaces.{are_none, params_in, serves, signature_types, signatures_of, takes}
use Rattle.gb_goal.specs.Scope as scope
use Rattle.gb_goal.specs.Scope.{module_type_of}
use Rattle.gb_meaning.specs.Names.{Name}
use Rattle.gb_meaning.specs.Declared.{ModuleType, Signature, declared}
use Rattle.gb_meaning.specs.Modules.{Procedures, found}
use Rattle.gb_typing.specs.Context.{Context}
use Rattle.gb_typing.specs.Modules.{Modules, ProcedureType, fits, functor_type, has_type, interface_at, is_complete, left_over, of_functor_type, provides, serve, without_lacks}
use Rattle.gb_typing.specs.Scopes.{context_of, IsTypedScope}
use Rattle.gb_typing.specs.Sequents.{AreBinders, with_modules}
use Rattle.gb_typing.specs.Suits.{lacked}
use Rattle.gb_typing.proofs.Agreed.{complete_map, interface_agrees}
use Rattle.gb_typing.proofs.DeclaredTypes.{scope_types}
use Rattle.gb_typing.proofs.Located.{known_in_scope}
use Rattle.gb_typing.proofs.ParameterTypes.{ArePlainParams, TypeStands, params_there, plain_there, type_in_scope}
use Rattle.gb_mods.specs.Meets.{first_unmet, left_open, open_name, type_of_signature}
use Rattle.gb_arguments.specs.Collect.{open_binders}
use Rattle.gb_arguments.specs.OpenGoals.{AreOpenFit}
use Rattle.gb_arguments.proofs.Members.{Has}
use Rattle.gb_arguments.proofs.OpenFit.{Good, binders, open_known, params_taken, taken_own, types_stay}

-- procedures that meet signatures are provided
provided : (ps : Procedures ProcedureType) (ss : List Signature) → first_unmet ps ss ≡ None → provides ps (signature_types ss) ≡ true
provided ps [] e = refl
provided ps (s ∷ ss) e = step (has_type (found ps s.name) (type_of_signature s)) refl e (provided ps ss)
  where
    step : (b : Bool) → has_type (found ps s.name) (type_of_signature s) ≡ b → (if b then first_unmet ps ss else Some s.name) ≡ None → (first_unmet ps ss ≡ None → provides ps (signature_types ss) ≡ true) →
        (has_type (found ps s.name) (type_of_signature s) && provides ps (signature_types ss)) ≡ true
    step true h e go = and_from (has_type (found ps s.name) (type_of_signature s)) (provides ps (signature_types ss)) h (go e)
    step false h e go = absurd (none-some s.name (sym e))

module _ (ds : scope.Declarations) (scoped : IsTypedScope (declared ds)) where
  abbrev c : Context
  c = context_of (declared ds)

  abbrev T : Name → Option ModuleType
  T = c.modules.types

  -- what a parameter's module type asks for
  abbrev asked : Param → Procedures ProcedureType
  asked p = signature_types (signatures_of (T p.ty))

  asked_is : (p : Param) → asked p ≡ signature_types (signatures_of (module_type_of ds p.ty))
  asked_is p = ap (λ t. signature_types (signatures_of t)) (scope_types ds scoped p.ty)

  complete_is : (p : Param) → is_complete (functor_type T (T p.ty)).lacks ≡ are_none (params_in (module_type_of ds p.ty))
  complete_is p = complete_map asked (params_in (T p.ty)) ∙ ap (λ t. are_none (params_in t)) (scope_types ds scoped p.ty)

  -- what a module lacks, the parameters of a module type give
  taken : (ps qs : List Param) → takes ds ps qs ≡ true → serve (map asked qs) (lacked T ps) ≡ true
  taken [] [] e = refl
  taken (p ∷ ps) (q ∷ qs) e =
      let k = and_parts (serves (module_type_of ds q.ty) (module_type_of ds p.ty)) (takes ds ps qs) e in
      let l = and_parts (are_none (params_in (module_type_of ds p.ty))) (provides (signature_types (signatures_of (module_type_of ds q.ty))) (signature_types (signatures_of (module_type_of ds p.ty)))) k.0 in
      and_from (is_complete (functor_type T (T p.ty)).lacks) (provides (asked q) (asked p) && serve (map asked qs) (lacked T ps)) (complete_is p ∙ l.0)
      (and_from (provides (asked q) (asked p)) (serve (map asked qs) (lacked T ps)) ((λ i. provides (asked_is q i) (asked_is p i)) ∙ l.1) (taken ps qs k.1))
  taken [] (q ∷ qs) e = absurd (false≢true e)
  taken (p ∷ ps) [] e = absurd (false≢true e)

  none_lacking : (ls : List (Procedures ProcedureType)) → is_complete ls ≡ true → (ps : List Param) → ps ≡ [] → serve ls (map without_lacks (map asked ps)) ≡ true
  none_lacking [] h ps e = ap (λ z. serve [] (map without_lacks (map asked z))) e
  none_lacking (l ∷ ls) h ps e = absurd (false≢true h)

  -- modules of a parameter's type fit where the parameter serves
  each_fits : (ms : Modules) (qs ps : List Param) → serve (map asked qs) (lacked T ps) ≡ true → ArePlainParams T qs →
      ((q : Param) → Has qs q → ms.interfaces (open_name q.name) ≡ Some (of_functor_type (functor_type T (T q.ty)))) → left_over (lacked T ps) (map (interface_at ms) (left_open qs)) ≡ Some []
  each_fits ms [] [] e w h = refl
  each_fits ms [] (p ∷ ps) e w h = absurd (false≢true e)
  each_fits ms (q ∷ qs) [] e w h = absurd (false≢true e)
  each_fits ms (q ∷ qs) (p ∷ ps) e w h =
      let k = and_parts (is_complete (functor_type T (T p.ty)).lacks) (provides (asked q) (asked p) && serve (map asked qs) (lacked T ps)) e in
      let l = and_parts (provides (asked q) (asked p)) (serve (map asked qs) (lacked T ps)) k.1 in
      ap (λ (b : Bool). if b then left_over (lacked T ps) (map (interface_at ms) (left_open qs)) else None)
      (ap (λ o. fits o (functor_type T (T p.ty))) (h q (inl refl))
      ∙ and_from (serve (functor_type T (T p.ty)).lacks (map without_lacks (map asked (params_in (T q.ty))))) (provides (asked q) (asked p))
      (none_lacking (functor_type T (T p.ty)).lacks k.0 (params_in (T q.ty)) w.0) l.0)
      ∙ each_fits ms qs ps l.1 w.1 (λ z j. h z (inr j))

  module _ (n : Name) (t : ModuleType) (there : module_type_of ds n ≡ Some t) where
    stands : TypeStands c t
    stands = type_in_scope ds scoped n t there

    pub type_known : T n ≡ Some t
    type_known = scope_types ds scoped n ∙ there

    pub plain_params : ArePlainParams T t.params
    plain_params = plain_there c t stands

    good : Good ds scoped t.params
    good = (
      params_there c t stands,
      taken_own (let d = stands.before in d.modules) t.params
          (params_taken (let d = stands.before in d.modules) t.params (let y = stands.typed in y.params)),
    )

    -- a module that meets the type fits it
    pub meets_fits : (m : Mexp) (k : known.Interface) → known.interface_at ds None m ≡ Some k → takes ds k.lacks t.params ≡ true → first_unmet k.procedures t.signatures ≡ None →
        fits (interface_at c.modules m) (functor_type T (Some t)) ≡ true
    meets_fits m k e l u =
        ap (λ o. fits o (functor_type T (Some t))) (interface_agrees ds None c.modules (scope_types ds scoped) (known_in_scope ds scoped) m k e)
        ∙ and_from (serve (map asked t.params) (lacked T k.lacks)) (provides k.procedures (signature_types t.signatures)) (taken k.lacks t.params l) (provided k.procedures t.signatures u)

    module _ (unspelt : (x : Name) → c.modules.interfaces (open_name x) ≡ None) where
      pub type_binders : AreBinders c (open_binders t.params)
      type_binders = binders ds scoped t.params good c refl (λ q h. unspelt q.name)

      pub open_type : (f0 : Term) (q : Param) → Has t.params q → (with_modules c (open_binders t.params)).modules.interfaces (open_name q.name) ≡ Some (of_functor_type (functor_type T (T q.ty)))
      open_type f0 q h = open_known ds scoped f0 c t.params type_binders q h

      -- the type's parameters, left open, fit what a module lacks
      pub type_fit : (f0 : Term) (k : known.Interface) → takes ds k.lacks t.params ≡ true → AreOpenFit ds scoped t.params f0 type_binders k
      type_fit f0 k l =
          subst (λ f. left_over (lacked f k.lacks) (map (interface_at (with_modules c (open_binders t.params)).modules) (left_open t.params)) ≡ Some []) (sym (types_stay ds scoped c t.params))
          (each_fits (with_modules c (open_binders t.params)).modules t.params k.lacks (taken k.lacks t.params l) plain_params (open_type f0))
