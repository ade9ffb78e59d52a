-- The oracles that procedures of the module types of a typed scope name have signatures.
use Rattle.std.proofs.Common.{◌≡◌, inl, inr, Bool, true, false, if◌then◌else◌, List, [], ◌∷◌, ◌++◌, map, Option, Some, None, bytes_eq, refl, ap, sym, ◌∙◌, subst}
use Rattle.std.proofs.lemmas.Slice.Eq.{bytes_eq-Decides}
use Rattle.gb_terms.specs.declared.decl.Param.{Param}
use Rattle.gb_goal.specs.declared.module_type.Oracle.{Oracle as OracleName}
use Rattle.gb_goal.specs.Scope as scope
use Rattle.gb_meaning.specs.Names.{Name}
use Rattle.gb_meaning.specs.Program.{Oracle}
use Rattle.gb_meaning.specs.Adversary.{as_asked, oracle_signature, oracles_among, oracles_in, oracles_named, type_named}
use Rattle.gb_meaning.specs.Declared.{Declarations, MayCall, ModuleType, Signature, declared, every, signature_in, those}
use Rattle.gb_typing.specs.Alike.{AreSigned, NameSigned, SameParams}
use Rattle.gb_typing.specs.Formulas.{IsKnown, oracle_in}
use Rattle.gb_typing.specs.Modules.{Modules, signatures_of}
use Rattle.gb_typing.specs.Scopes.{AreOracles, AreParams, AreSignatures, context_of, with_param, IsTypedScope}
use Rattle.gb_typing.proofs.DeclaredTypes.{scope_types}
use Rattle.gb_typing.proofs.Growing.{KeepsTypes}
use Rattle.gb_typing.proofs.ParameterTypes.{TypeStands, type_in_scope}
use Rattle.gb_prog.proofs.Oracles.{signatures_same}
use Rattle.gb_arguments.proofs.Asked.{HaveOwnNames, ParamIsFresh}
use Rattle.gb_arguments.proofs.OwnParams.{params_own}
use Rattle.gb_arguments.specs.Covers.{AreTypesSigned}
use Rattle.gb_arguments.proofs.Members.{Has}

other_param : (n : Name) (ps : List Param) → ParamIsFresh n ps → (q : Param) → Has ps q → bytes_eq q.name n ≡ false
other_param n [] f q h = absurd h
other_param n (p ∷ ps) f q (inl e) = subst (λ (z : Param). bytes_eq z.name n ≡ false) e f.0
other_param n (p ∷ ps) f q (inr h) = other_param n ps f.1 q h

known_if : {A : Type 0} (b : Bool) (x : A) (o : Option A) → IsKnown o → IsKnown (if b then Some x else o)
known_if true x o k = tt
known_if false x o k = k

itself_known : (ss : List Signature) (s : Signature) → Has ss s → IsKnown (signature_in ss s.name)
itself_known [] s h = absurd h
itself_known (u ∷ ss) s (inl e) =
    subst (λ (z : Signature). IsKnown (if bytes_eq z.name u.name then Some u else signature_in ss z.name)) e
    (subst (λ (b : Bool). IsKnown (if b then Some u else signature_in ss u.name)) (sym ((bytes_eq-Decides u.name u.name).1 refl)) tt)
itself_known (u ∷ ss) s (inr h) = known_if (bytes_eq s.name u.name) u (signature_in ss s.name) (itself_known ss s h)

module _ (D : Declarations) where
  -- the oracles of a parameter have the signatures of its type
  own_signed : (ps : List Param) → HaveOwnNames ps → (q : Param) → Has ps q → (n : Name) →
      oracle_signature D ps (record { parameter = q.name; name = n }) ≡ signature_in (type_named D q.ty).signatures n
  own_signed [] h q k n = absurd k
  own_signed (p ∷ ps) h q (inl e) n =
      subst (λ (z : Param). oracle_signature D (p ∷ ps) (record { parameter = z.name; name = n }) ≡ signature_in (type_named D z.ty).signatures n) e
      (ap (λ (b : Bool). if b then signature_in (type_named D p.ty).signatures n else oracle_signature D ps (record { parameter = p.name; name = n })) ((bytes_eq-Decides p.name p.name).1 refl))
  own_signed (p ∷ ps) h q (inr k) n =
      ap (λ (b : Bool). if b then signature_in (type_named D p.ty).signatures n else oracle_signature D ps (record { parameter = q.name; name = n })) (other_param p.name ps h.0 q k)
      ∙ own_signed ps h.1 q k n

  param_signed : (ps : List Param) → HaveOwnNames ps → (q : Param) → Has ps q → (ss : List Signature) → ((s : Signature) → Has ss s → Has (type_named D q.ty).signatures s) →
      AreSigned D ps (oracles_in q.name ss)
  param_signed ps h q k [] w = tt
  param_signed ps h q k (s ∷ ss) w = (
    subst IsKnown (sym (own_signed ps h q k s.name)) (itself_known (type_named D q.ty).signatures s (w s (inl refl))),
    param_signed ps h q k ss (λ u j. w u (inr j)),
  )

  signed_both : (ps : List Param) (us vs : List Oracle) → AreSigned D ps us → AreSigned D ps vs → AreSigned D ps (us ++ vs)
  signed_both ps [] vs w k = k
  signed_both ps (u ∷ us) vs w k = (w.0, signed_both ps us vs w.1 k)

  every_signed : (ps : List Param) → HaveOwnNames ps → (qs : List Param) → ((q : Param) → Has qs q → Has ps q) → AreSigned D ps (oracles_among D qs)
  every_signed ps h [] w = tt
  every_signed ps h (q ∷ qs) w =
      signed_both ps (oracles_in q.name (type_named D q.ty).signatures) (oracles_among D qs) (param_signed ps h q (w q (inl refl)) (type_named D q.ty).signatures (λ s k. k))
      (every_signed ps h qs (λ p k. w p (inr k)))

  module _ (ms : Modules) where
    oracle_is : (ps : List Param) → SameParams D ms.types ps → (o : Oracle) → oracle_in ms ps o.parameter o.name ≡ oracle_signature D ps o
    oracle_is [] k o = refl
    oracle_is (q ∷ qs) k o = λ i. if bytes_eq o.parameter q.name then signature_in (k.0 i) o.name else oracle_is qs k.1 o i

    those_signed : (ps : List Param) → SameParams D ms.types ps → (os : List OracleName) → AreOracles ms ps (those os) → AreSigned D ps (map as_asked os)
    those_signed ps k [] w = tt
    those_signed ps k (o ∷ os) w = (subst IsKnown (oracle_is ps k (as_asked o)) w.0, those_signed ps k os w.1)

    named_signed : (ps : List Param) → HaveOwnNames ps → SameParams D ms.types ps → (m : MayCall) → AreOracles ms ps m → AreSigned D ps (oracles_named D ps m)
    named_signed ps h k every w = every_signed ps h ps (λ q j. j)
    named_signed ps h k (those os) w = those_signed ps k os w

    each_signed : (t : ModuleType) → HaveOwnNames t.params → SameParams D ms.types t.params → (ss : List Signature) → AreSignatures ms t.params ss → NameSigned D t ss
    each_signed t h k [] w = tt
    each_signed t h k (s ∷ ss) w = (named_signed t.params h k s.oracles w.0.2, each_signed t h k ss w.2)

module _ (ds : scope.Declarations) (scoped : IsTypedScope (declared ds)) where
  same_params : (ms : Modules) → KeepsTypes ms.types (context_of (declared ds)).modules.types → (ps : List Param) → AreParams ms ps → SameParams (declared ds) ms.types ps
  same_params ms keeps [] w = tt
  same_params ms keeps (p ∷ ps) w = (step (ms.types p.ty) refl w.0.0, same_params (with_param ms p) keeps ps w.1)
    where
      step : (o : Option ModuleType) → ms.types p.ty ≡ o → IsKnown o → signatures_of (ms.types p.ty) ≡ (type_named (declared ds) p.ty).signatures
      step None e k = absurd k
      step (Some t) e k = ap signatures_of (e ∙ sym (keeps p.ty t e) ∙ scope_types ds scoped p.ty) ∙ sym (signatures_same ds p.ty)

  pub types_signed : AreTypesSigned ds
  types_signed n t e = by_place (type_in_scope ds scoped n t (sym (scope_types ds scoped n) ∙ e))
    where
      by_place : TypeStands (context_of (declared ds)) t → NameSigned (declared ds) t t.signatures
      by_place s =
          let before = s.before in
          let typed = s.typed in
          let keeps = s.keeps in
          each_signed (declared ds) before.modules t (params_own before.modules t.params typed.params) (same_params before.modules keeps.types t.params typed.params) t.signatures typed.signatures
