-- Modules that fit binders have procedures of the types that the binders' types ask for, by the same names of parameters.
use Rattle.std.proofs.Common.{◌≡◌, Bool, true, false, if◌then◌else◌, List, [], ◌∷◌, Option, Some, None, bytes_eq, refl, ap, sym, ◌∙◌, subst}
use Rattle.std.proofs.lemmas.Bool.{and_parts, false≢true}
use Rattle.std.proofs.lemmas.Option.{none-some}
use Rattle.std.proofs.lemmas.Slice.Eq.{bytes_eq-Decides}
use Rattle.gb_core.specs.SameTypes.{ty_eq}
use Rattle.gb_core.specs.declared.place.Place.{Place}
use Rattle.gb_core.specs.declared.var.Var.{Var}
use Rattle.gb_core.proofs.SameTypes.{ty_eq-Decides}
use Rattle.gb_terms.specs.declared.decl.Param.{Param}
use Rattle.gb_terms.specs.declared.decl.TypedName.{TypedName}
use Rattle.gb_terms.specs.declared.module.Bind.{Bind}
use Rattle.gb_terms.specs.declared.module.Mexp.{Mexp}
use Rattle.gb_goal.specs.Answers.{Answer, not_built}
use Rattle.gb_goal.specs.Answers.Answer.{given}
use Rattle.gb_goal.specs.declared.module_type.ModuleType.{ModuleType}
use Rattle.gb_goal.specs.declared.module_type.Signature.{Signature}
use Rattle.gb_goal.specs.declared.sequent.Sequent.{Sequent}
use Rattle.gb_goal.specs.Interfaces.{Procedures, ProcedureType, found, has_type, interface_at, provides, same_params, signature_types, signatures_of}
use Rattle.gb_goal.specs.Scope.{Declarations, module_type_of}
use Rattle.gb_meaning.specs.Declared.{declared}
use Rattle.gb_meaning.specs.Names.{Name}
use Rattle.gb_mods.specs.Meets.{Known, meets_named}
use Rattle.gb_typing.specs.Modules.{Modules}
use Rattle.gb_typing.specs.Modules as typed
use Rattle.gb_typing.specs.Scopes.{IsTypedScope, context_of}
use Rattle.gb_typing.proofs.Agreed.{interface_agrees, resolved}
use Rattle.gb_typing.proofs.DeclaredTypes.{scope_types}
use Rattle.gb_typing.proofs.Located.{known_in_scope}
use Rattle.gb_instances.specs.Footprint.{footprint}
use Rattle.gb_arguments.specs.Led.{AreNamedAs, HasNamed}
use Rattle.gb_arguments.specs.Facts.{AreModulesOf, EachFits}
use Rattle.gb_instances.specs.Fits as facts
use Rattle.gb_instances.specs.Fits.{has_names, named_as, same_names}
use Rattle.gb_instances.specs.Lossless.{first_loss}
use Rattle.gb_instances.specs.Instance.{GivenModule, excluded_put, modules_of}
use Rattle.gb_arguments.proofs.Fitting.{IsMet, given_then, not_refused, type_met}

-- parameters of the same names and types
same_listed : (xs ys : List TypedName) → same_names xs ys ≡ true → same_params xs ys ≡ true → xs ≡ ys
same_listed [] [] n t = refl
same_listed [] (y ∷ ys) n t = absurd (false≢true n)
same_listed (x ∷ xs) [] n t = absurd (false≢true n)
same_listed (x ∷ xs) (y ∷ ys) n t =
    let a = and_parts (bytes_eq x.name y.name) (same_names xs ys) n in
    let b = and_parts (ty_eq x.ty y.ty) (same_params xs ys) t in
    λ i. record { name = (bytes_eq-Decides x.name y.name).0 a.0 i; ty = (ty_eq-Decides x.ty y.ty).0 b.0 i } ∷ same_listed xs ys a.1 b.1 i

one_named : (o : Option ProcedureType) (s : Signature) → has_names o s ≡ true → has_type o (record { params = s.params; result = s.result }) ≡ true →
    o ≡ Some (record { params = s.params; result = s.result })
one_named None s n t = absurd (false≢true n)
one_named (Some u) s n t =
    let k = and_parts (same_params u.params s.params) (ty_eq u.result s.result) t in
    λ i. Some (record { params = same_listed u.params s.params n k.0 i; result = (ty_eq-Decides u.result s.result).0 k.1 i })

named_if : (b : Bool) (a : Answer (Unit {0})) (p : Place) → (if b then a else not_built p) ≡ given tt → (b ≡ true) × (a ≡ given tt)
named_if true a p e = (refl, e)
named_if false a p e = not_refused _ _ tt e

each_named : (ps : Procedures ProcedureType) (ss : List Signature) (p : Place) → named_as ps ss p ≡ given tt → provides ps (signature_types ss) ≡ true →
    (n : Name) (t : ProcedureType) → found (signature_types ss) n ≡ Some t → found ps n ≡ Some t
each_named ps [] p e w n t k = absurd (none-some t k)
each_named ps (s ∷ ss) p e w n t k =
    let a = named_if (has_names (found ps s.name) s) (named_as ps ss p) p e in
    let b = and_parts (has_type (found ps s.name) (record { params = s.params; result = s.result })) (provides ps (signature_types ss)) w in
    step (each_named ps ss p a.1 b.1 n t) (one_named (found ps s.name) s a.0 b.0) (bytes_eq n s.name) refl k
  where
    step : (found (signature_types ss) n ≡ Some t → found ps n ≡ Some t) → found ps s.name ≡ Some (record { params = s.params; result = s.result }) → (b : Bool) → bytes_eq n s.name ≡ b →
        (if b then Some (let u : ProcedureType = record { params = s.params; result = s.result } in u) else found (signature_types ss) n) ≡ Some t → found ps n ≡ Some t
    step later here true e k = ap (found ps) ((bytes_eq-Decides n s.name).0 e) ∙ here ∙ k
    step later here false e k = later k

names_it : (ds : Declarations) (k : Known) (b : Bind) (vs : Option (List Var)) (p : Place) → facts.fits ds k b vs p ≡ given tt →
    (meets_named ds None k b.ty p ≡ given tt) × (named_as k.1.procedures (signatures_of (module_type_of ds b.ty)) p ≡ given tt)
unfolding facts.fits
names_it ds k b vs p e =
    let x = given_then (meets_named ds None k b.ty p) _ tt e in
    let y = given_then (facts.kept_off ds vs (footprint ds k) p) _ tt x.2 in
    let z = given_then (facts.unbounded b.bounds p) _ tt y.2 in
    let w = given_then (facts.unless_lost (first_loss ds k b.ty) p) _ tt z.2 in
    (x.1, w.2)

type_named : (ds : Declarations) (k : Known) (o : Option ModuleType) (p : Place) → IsMet ds k o → named_as k.1.procedures (signatures_of o) p ≡ given tt →
    (n : Name) (t : ProcedureType) → found (signature_types (signatures_of o)) n ≡ Some t → found k.1.procedures n ≡ Some t
type_named ds k None p m e = absurd m
type_named ds k (Some t) p m e = each_named k.1.procedures t.signatures p e m.1

module _ (ds : Declarations) (scoped : IsTypedScope (declared ds)) where
  abbrev ms : Modules
  ms = (context_of (declared ds)).modules

  one_has_named : (k : Known) → interface_at ds None k.0 ≡ Some k.1 → (b : Bind) (vs : Option (List Var)) (p : Place) → facts.fits ds k b vs p ≡ given tt →
      HasNamed (typed.interface_at ms k.0) (signature_types (signatures_of (ms.types b.ty)))
  one_has_named k e b vs p w =
      let x = names_it ds k b vs p w in
      subst (λ o. HasNamed o (signature_types (signatures_of (ms.types b.ty)))) (sym (interface_agrees ds None ms (scope_types ds scoped) (known_in_scope ds scoped) k.0 k.1 e))
      (subst (λ o. HasNamed (Some (resolved ms.types k.1)) (signature_types (signatures_of o))) (sym (scope_types ds scoped b.ty))
      (type_named ds k (module_type_of ds b.ty) p (type_met ds k b.ty (module_type_of ds b.ty) p x.0) x.1))

  -- modules that fit binders whose restrictions exclude what they do where modules are put in
  pub are_named : (ps : List Param) (es : List Mexp) (q : Sequent) (p : Place) (bs : List Bind) (ks : List GivenModule) → EachFits ds ps es q p bs ks → AreModulesOf ds ks →
      AreNamedAs (context_of (declared ds)) bs (modules_of ks)
  are_named ps es q p [] [] w m = tt
  are_named ps es q p [] (k ∷ ks) w m = absurd w
  are_named ps es q p (b ∷ bs) [] w m = absurd w
  are_named ps es q p (b ∷ bs) (k ∷ ks) w m = (one_has_named k.0 m.0 b (excluded_put ds ps es b.minus) k.1 w.0, are_named ps es q p bs ks w.2 m.1)
