-- Modules that fit binders fit their module types.
use Rattle.std.proofs.Common.{◌≡◌, Bool, true, false, ◌&&◌, if◌then◌else◌, List, [], ◌∷◌, map, Option, Some, None, refl, ap, sym, ◌∙◌}
use Rattle.std.proofs.lemmas.Bool.{and_from, and_parts, false≢true}
use Rattle.std.proofs.lemmas.Option.{none-some}
use Rattle.gb_core.specs.declared.place.Place.{Place}
use Rattle.gb_core.specs.declared.refusal.Why.{Why}
use Rattle.gb_core.specs.declared.var.Var.{Var}
use Rattle.gb_terms.specs.declared.decl.Param.{Param}
use Rattle.gb_terms.specs.declared.module.Bind.{Bind}
use Rattle.gb_terms.specs.declared.module.Mexp.{Mexp}
use Rattle.gb_goal.specs.Answers.{Answer, ◌>>=◌}
use Rattle.gb_goal.specs.Answers.Answer.{given, refused}
use Rattle.gb_goal.specs.declared.module_type.ModuleType.{ModuleType}
use Rattle.gb_goal.specs.declared.module_type.Signature.{Signature}
use Rattle.gb_goal.specs.declared.sequent.Sequent.{Sequent}
use Rattle.gb_goal.specs.Interfaces.{Procedures, ProcedureType, are_none, found, has_type, interface_at, params_in, provides, serves, signature_types, signatures_of, takes}
use Rattle.gb_goal.specs.Scope.{Declarations, module_type_of}
use Rattle.gb_meaning.specs.Declared.{declared}
use Rattle.gb_mods.specs.Meets.{Known, first_of, first_unmet, meets_if, meets_named, type_of_signature, unless_unmet, unmet}
use Rattle.gb_typing.specs.Modules.{Modules, fits, functor_type, is_complete, serve}
use Rattle.gb_typing.specs.Modules as typed
use Rattle.gb_typing.specs.Scopes.{IsTypedScope, context_of}
use Rattle.gb_typing.specs.Suits.{lacked}
use Rattle.gb_typing.proofs.Agreed.{complete_map, interface_agrees, resolved}
use Rattle.gb_typing.proofs.DeclaredTypes.{scope_types}
use Rattle.gb_typing.proofs.Located.{known_in_scope}
use Rattle.gb_arguments.specs.Arguments.{AreFit}
use Rattle.gb_instances.specs.Footprint.{footprint}
use Rattle.gb_arguments.specs.Facts.{AreModulesOf, EachFits}
use Rattle.gb_instances.specs.Fits as facts
use Rattle.gb_instances.specs.Instance.{GivenModule, each_fits, excluded_put, modules_of, readable}

-- Answers.

abbrev is_given : {A : Type 0} → Answer A → Bool
is_given (given x) = true
is_given (refused w p) = false

pub not_refused : {A B : Type 0} (w : Why) (p : Place) (x : A) → ◌≡◌ {A = Answer A} (refused w p) (given x) → B
not_refused w p x e = absurd (false≢true (ap is_given e))

pub given_then : {A B : Type 0} (a : Answer A) (f : A → Answer B) (y : B) → (a >>= f) ≡ given y → (x : A) × (a ≡ given x) × (f x ≡ given y)
given_then (given x) f y e = (x, refl, e)
given_then (refused w p) f y e = not_refused w p y e

-- each module fits its binder, and can be read
pub each_fit : (ds : Declarations) (ps : List Param) (es : List Mexp) (q : Sequent) (p : Place) (bs : List Bind) (ks : List GivenModule) → each_fits ds ps es q p bs ks ≡ given tt →
    EachFits ds ps es q p bs ks
each_fit ds ps es q p [] [] e = tt
each_fit ds ps es q p [] (k ∷ ks) e = not_refused _ _ tt e
each_fit ds ps es q p (b ∷ bs) [] e = not_refused _ _ tt e
each_fit ds ps es q p (b ∷ bs) (k ∷ ks) e =
    let x = given_then (facts.fits ds k.0 b (excluded_put ds ps es b.minus) k.1) _ tt e in
    let y = given_then (readable ds k.0.0 b.name q k.1) _ tt x.2 in
    (x.1, y.1, each_fit ds ps es q p bs ks y.2)

meets_it : (ds : Declarations) (k : Known) (b : Bind) (vs : Option (List Var)) (p : Place) → facts.fits ds k b vs p ≡ given tt → meets_named ds None k b.ty p ≡ given tt
unfolding facts.fits
meets_it ds k b vs p e = let x = given_then (meets_named ds None k b.ty p) _ tt e in x.1

-- it is known what it touches
pub kept_it : (ds : Declarations) (k : Known) (b : Bind) (vs : Option (List Var)) (p : Place) → facts.fits ds k b vs p ≡ given tt → facts.kept_off ds vs (footprint ds k) p ≡ given tt
unfolding facts.fits
kept_it ds k b vs p e =
    let x = given_then (meets_named ds None k b.ty p) _ tt e in
    let y = given_then (facts.kept_off ds vs (footprint ds k) p) _ tt x.2 in
    y.1

-- what meets a module type has its procedures, and lacks what its parameters give
provides_it : (ps : Procedures ProcedureType) (ss : List Signature) → first_unmet ps ss ≡ None → provides ps (signature_types ss) ≡ true
provides_it ps [] e = refl
provides_it ps (s ∷ ss) e = step (has_type (found ps s.name) (type_of_signature s)) (provides_it ps ss) e
  where
    step : (b : Bool) → (first_unmet ps ss ≡ None → provides ps (signature_types ss) ≡ true) → (if b then first_unmet ps ss else Some s.name) ≡ None → (b && provides ps (signature_types ss)) ≡ true
    step true later e = later e
    step false later e = absurd (none-some s.name (sym e))

met : (ds : Declarations) (k : Known) (n : _) (t : ModuleType) → unmet ds k.1 n t ≡ None → (takes ds k.1.lacks t.params ≡ true) × (provides k.1.procedures (signature_types t.signatures) ≡ true)
met ds k n t e = step (takes ds k.1.lacks t.params) e
  where
    step : (b : Bool) → (if b then first_unmet k.1.procedures t.signatures else Some (first_of n t.signatures)) ≡ None → (b ≡ true) × (provides k.1.procedures (signature_types t.signatures) ≡ true)
    step true e = (refl, provides_it k.1.procedures t.signatures e)
    step false e = absurd (none-some (first_of n t.signatures) (sym e))

unmet_none : (o : Option _) (p : Place) → unless_unmet o p ≡ given tt → o ≡ None
unmet_none None p e = refl
unmet_none (Some n) p e = not_refused _ _ tt e

abbrev pub IsMet : Declarations → Known → Option ModuleType → Type 0
IsMet ds k None = ⊥
IsMet ds k (Some t) = (takes ds k.1.lacks t.params ≡ true) × (provides k.1.procedures (signature_types t.signatures) ≡ true)

pub type_met : (ds : Declarations) (k : Known) (n : _) (o : Option ModuleType) (p : Place) → meets_if ds None k n o p ≡ given tt → IsMet ds k o
type_met ds k n None p e = not_refused _ _ tt e
type_met ds k n (Some t) p e = let x = given_then (unless_unmet (unmet ds k.1 n t) p) _ tt e in met ds k n t (unmet_none (unmet ds k.1 n t) p x.1)

module _ (ds : Declarations) (scoped : IsTypedScope (declared ds)) where
  abbrev ms : Modules
  ms = (context_of (declared ds)).modules

  -- what a parameter's module type asks for
  abbrev asked : Param → Procedures ProcedureType
  asked p = signature_types (signatures_of (ms.types p.ty))

  asked_is : (p : Param) → asked p ≡ signature_types (signatures_of (module_type_of ds p.ty))
  asked_is p = ap (λ t. signature_types (signatures_of t)) (scope_types ds scoped p.ty)

  complete_is : (p : Param) → is_complete (functor_type ms.types (ms.types p.ty)).lacks ≡ are_none (params_in (module_type_of ds p.ty))
  complete_is p = complete_map asked (params_in (ms.types p.ty)) ∙ ap (λ t. are_none (params_in t)) (scope_types ds scoped p.ty)

  taken : (ps qs : List Param) → takes ds ps qs ≡ true → serve (map asked qs) (lacked ms.types ps) ≡ true
  taken [] [] e = refl
  taken (p ∷ ps) (q ∷ qs) e =
      let k = and_parts (serves (module_type_of ds q.ty) (module_type_of ds p.ty)) (takes ds ps qs) e in
      let l = and_parts (are_none (params_in (module_type_of ds p.ty))) (provides (signature_types (signatures_of (module_type_of ds q.ty))) (signature_types (signatures_of (module_type_of ds p.ty)))) k.0 in
      and_from _ _ (complete_is p ∙ l.0) (and_from _ _ ((λ i. provides (asked_is q i) (asked_is p i)) ∙ l.1) (taken ps qs k.1))
  taken [] (q ∷ qs) e = absurd (false≢true e)
  taken (p ∷ ps) [] e = absurd (false≢true e)

  fit_type : (k : Known) (o : Option ModuleType) → IsMet ds k o → fits (Some (resolved ms.types k.1)) (functor_type ms.types o) ≡ true
  fit_type k None m = absurd m
  fit_type k (Some t) m = and_from _ _ (taken k.1.lacks t.params m.0) m.1

  pub one_fits : (k : Known) → interface_at ds None k.0 ≡ Some k.1 → (b : Bind) (vs : Option (List Var)) (p : Place) → facts.fits ds k b vs p ≡ given tt →
      fits (typed.interface_at ms k.0) (functor_type ms.types (ms.types b.ty)) ≡ true
  one_fits k e b vs p w =
      ap (λ o. fits o (functor_type ms.types (ms.types b.ty))) (interface_agrees ds None ms (scope_types ds scoped) (known_in_scope ds scoped) k.0 k.1 e)
      ∙ ap (λ o. fits (Some (resolved ms.types k.1)) (functor_type ms.types o)) (scope_types ds scoped b.ty)
      ∙ fit_type k (module_type_of ds b.ty) (type_met ds k b.ty (module_type_of ds b.ty) p (meets_it ds k b vs p w))

  -- modules that fit binders whose restrictions exclude what they do where modules are put in
  pub are_fit : (ps : List Param) (es : List Mexp) (q : Sequent) (p : Place) (bs : List Bind) (ks : List GivenModule) → EachFits ds ps es q p bs ks → AreModulesOf ds ks →
      AreFit (context_of (declared ds)) bs (modules_of ks)
  are_fit ps es q p [] [] w m = tt
  are_fit ps es q p [] (k ∷ ks) w m = absurd w
  are_fit ps es q p (b ∷ bs) [] w m = absurd w
  are_fit ps es q p (b ∷ bs) (k ∷ ks) w m = (one_fits k.0 m.0 b (excluded_put ds ps es b.minus) k.1 w.0, are_fit ps es q p bs ks w.2 m.1)
