-- The oracles that signatures of declared module types name are procedures of the parameters' module types.
use Rattle.std.proofs.Common.{◌≡◌, Bool, true, false, if◌then◌else◌, List, [], ◌∷◌, Option, Some, None, bytes_eq, refl, ap, sym, ◌∙◌, subst}
use Rattle.std.specs.List.{AllByRecursion}
use Rattle.std.proofs.lemmas.Option.{none-some, same_Some}
use Rattle.std.proofs.lemmas.Slice.Eq.{bytes_eq-Decides}
use Rattle.gb_terms.specs.declared.decl.Param.{Param}
use Rattle.gb_goal.specs.declared.module_type.Oracle.{Oracle}
use Rattle.gb_goal.specs.Scope.{Declarations, module_type_of}
use Rattle.gb_goal.specs.Interfaces.{params_in, signatures_of}
use Rattle.gb_meaning.specs.Names.{Name}
use Rattle.gb_laws.specs.Finite.{IsVariableType}
use Rattle.gb_meaning.specs.Declared.{MayCall, ModuleType, Signature, declared, every, those, signature_in}
use Rattle.gb_typing.specs.Formulas.{IsKnown, oracle_in}
use Rattle.gb_typing.specs.Modules.{Modules, of_functor_type, functor_type}
use Rattle.gb_typing.specs.Programs.{HaveVariableTypes}
use Rattle.gb_typing.specs.Scopes.{with_param, context_of, AreParams, AreOracles, AreSignatures, IsTypedScope}
use Rattle.gb_typing.proofs.DeclaredTypes.{scope_types}
use Rattle.gb_typing.proofs.Growing.{known_some}
use Rattle.gb_typing.proofs.ParameterTypes.{TypeStands, type_in_scope}
use Rattle.gb_mods.specs.Asked.{all_oracles, oracles_if, oracles_in, oracles_named, signature_of}
use Rattle.gb_call.proofs.After.{all_append}

known_if : {A : Type 0} (b : Bool) (x : A) (o : Option A) → IsKnown o → IsKnown (if b then Some x else o)
known_if true x o k = tt
known_if false x o k = k

-- parameters that stand behind others have other names
other_param : (ms : Modules) (p : Param) (n : Name) → (with_param ms p).interfaces n ≡ None → (bytes_eq n p.name ≡ false) × (ms.interfaces n ≡ None)
other_param ms p n e = step (bytes_eq n p.name) refl e
  where
    step : (b : Bool) → bytes_eq n p.name ≡ b → (if b then Some (of_functor_type (functor_type ms.types (ms.types p.ty))) else ms.interfaces n) ≡ None → (bytes_eq n p.name ≡ false) × (ms.interfaces n ≡ None)
    step true h e = absurd (none-some (of_functor_type (functor_type ms.types (ms.types p.ty))) (sym e))
    step false h e = (h, e)

module _ (ds : Declarations) where
  abbrev pub signatures_at : Param → List Signature
  signatures_at p = signatures_of (module_type_of ds p.ty)

  -- the signature that a parameter gives an oracle
  abbrev pub signature_for : List Param → Oracle → Option Signature
  signature_for [] o = None
  signature_for (q ∷ qs) o = if bytes_eq o.parameter q.name then signature_in (signatures_at q) o.name else signature_for qs o

  abbrev pub AreSigned : List Param → List Oracle → Type 0
  AreSigned ps us = AllByRecursion (λ u. IsKnown (signature_for ps u)) us

  -- All oracles.

  abbrev AreBehind : Modules → List Oracle → Type 0
  AreBehind ms us = AllByRecursion (λ u. ms.interfaces u.parameter ≡ None) us

  behind_in : (ms : Modules) (x : Name) → ms.interfaces x ≡ None → (ss : List Signature) → AreBehind ms (oracles_in x ss)
  behind_in ms x e [] = tt
  behind_in ms x e (s ∷ ss) = (e, behind_in ms x e ss)

  behind_less : (ms : Modules) (p : Param) (us : List Oracle) → AreBehind (with_param ms p) us → AreBehind ms us
  behind_less ms p [] w = tt
  behind_less ms p (u ∷ us) w = ((other_param ms p u.parameter w.0).1, behind_less ms p us w.1)

  behind_all : (ms : Modules) (ps : List Param) → AreParams ms ps → AreBehind ms (all_oracles ds ps)
  behind_all ms [] w = tt
  behind_all ms (p ∷ ps) w =
      all_append (λ u. ms.interfaces u.parameter ≡ None) (oracles_in p.name (signatures_at p)) (all_oracles ds ps) (behind_in ms p.name w.0.2 (signatures_at p))
      (behind_less ms p (all_oracles ds ps) (behind_all (with_param ms p) ps w.1))

  module _ (p : Param) (ps : List Param) where
    -- those of the first parameter
    first_signed : (ss : List Signature) → ((n : Name) → IsKnown (signature_in ss n) → IsKnown (signature_in (signatures_at p) n)) → AreSigned (p ∷ ps) (oracles_in p.name ss)
    first_signed [] h = tt
    first_signed (s ∷ ss) h = (
      subst (λ b. IsKnown (if b then signature_in (signatures_at p) s.name else signature_for ps (record { parameter = p.name; name = s.name }))) (sym ((bytes_eq-Decides p.name p.name).1 refl))
          (h s.name (subst (λ b. IsKnown (if b then Some s else signature_in ss s.name)) (sym ((bytes_eq-Decides s.name s.name).1 refl)) tt)),
      first_signed ss (λ n k. h n (known_if (bytes_eq n s.name) s (signature_in ss n) k)),
    )

    -- those of the parameters behind
    more_signed : (ms : Modules) (us : List Oracle) → AreBehind (with_param ms p) us → AreSigned ps us → AreSigned (p ∷ ps) us
    more_signed ms [] w k = tt
    more_signed ms (u ∷ us) w k =
        (subst (λ b. IsKnown (if b then signature_in (signatures_at p) u.name else signature_for ps u)) (sym (other_param ms p u.parameter w.0).0) k.0, more_signed ms us w.1 k.1)

  all_signed : (ms : Modules) (ps : List Param) → AreParams ms ps → AreSigned ps (all_oracles ds ps)
  all_signed ms [] w = tt
  all_signed ms (p ∷ ps) w =
      all_append (λ u. IsKnown (signature_for (p ∷ ps) u)) (oracles_in p.name (signatures_at p)) (all_oracles ds ps) (first_signed p ps (signatures_at p) (λ n k. k))
      (more_signed p ps ms (all_oracles ds ps) (behind_all (with_param ms p) ps w.1) (all_signed (with_param ms p) ps w.1))

  -- Those that signatures name.
  module _ (ms : Modules) where
    abbrev AreSame : List Param → Type 0
    AreSame ps = AllByRecursion (λ (p : Param). ms.types p.ty ≡ module_type_of ds p.ty) ps

    oracle_is : (ps : List Param) → AreSame ps → (o : Oracle) → oracle_in ms ps o.parameter o.name ≡ signature_for ps o
    oracle_is [] k o = refl
    oracle_is (q ∷ qs) k o = λ i. if bytes_eq o.parameter q.name then signature_in (signatures_of (k.0 i)) o.name else oracle_is qs k.1 o i

    those_signed : (ps : List Param) → AreSame ps → (os : List Oracle) → AreOracles ms ps (those os) → AreSigned ps os
    those_signed ps k [] w = tt
    those_signed ps k (o ∷ os) w = (subst IsKnown (oracle_is ps k o) w.0, those_signed ps k os w.1)

    named_signed : (ps : List Param) → AreParams ms ps → AreSame ps → (m : MayCall) → AreOracles ms ps m → AreSigned ps (oracles_named ds ps m)
    named_signed ps w k every h = all_signed ms ps w
    named_signed ps w k (those os) h = those_signed ps k os h

    found_signed : (ps : List Param) → AreParams ms ps → AreSame ps → (ss : List Signature) → AreSignatures ms ps ss → (f : Name) → AreSigned ps (oracles_if ds ps (signature_of ss f))
    found_signed ps w k [] h f = tt
    found_signed ps w k (s ∷ ss) h f = step (bytes_eq s.name f) (found_signed ps w k ss h.2 f)
      where
        step : (b : Bool) → AreSigned ps (oracles_if ds ps (signature_of ss f)) → AreSigned ps (oracles_if ds ps (if b then Some s else signature_of ss f))
        step true go = named_signed ps w k s.oracles h.0.2
        step false go = go

  module _ (scoped : IsTypedScope (declared ds)) (n : Name) (t : ModuleType) (there : module_type_of ds n ≡ Some t) where
    stands : TypeStands (context_of (declared ds)) t
    stands = type_in_scope ds scoped n t there

    same_params : (ms : Modules) → ((k : Name) (u : ModuleType) → ms.types k ≡ Some u → module_type_of ds k ≡ Some u) → (ps : List Param) → AreParams ms ps → AreSame ms ps
    same_params ms keeps [] w = tt
    same_params ms keeps (p ∷ ps) w = ((let x = known_some (ms.types p.ty) w.0.0 in x.1 ∙ sym (keeps p.ty x.0 x.1)), same_params (with_param ms p) keeps ps w.1)

    kept : (k : Name) (u : ModuleType) → (let s = stands in let b = s.before in b.modules.types k) ≡ Some u → module_type_of ds k ≡ Some u
    kept k u e = let s = stands in let l = s.keeps in sym (scope_types ds scoped k) ∙ l.types k u e

    -- the oracles that a procedure of the type may call
    pub oracles_signed : (f : Name) → AreSigned t.params (oracles_if ds t.params (signature_of t.signatures f))
    oracles_signed f =
        let s = stands in
        let b = s.before in
        let w = s.typed in
        found_signed b.modules t.params w.params (same_params b.modules kept t.params w.params) t.signatures w.signatures f

    -- the parameters lack nothing
    pub params_plain : AllByRecursion (λ (p : Param). params_in (module_type_of ds p.ty) ≡ []) t.params
    params_plain = let s = stands in let b = s.before in let w = s.typed in each b.modules kept t.params w.params
      where
        each : (ms : Modules) → ((k : Name) (u : ModuleType) → ms.types k ≡ Some u → module_type_of ds k ≡ Some u) → (ps : List Param) → AreParams ms ps →
            AllByRecursion (λ (p : Param). params_in (module_type_of ds p.ty) ≡ []) ps
        each ms keeps [] w = tt
        each ms keeps (p ∷ ps) w =
            ((let x = known_some (ms.types p.ty) w.0.0 in ap params_in (keeps p.ty x.0 x.1 ∙ sym x.1) ∙ w.0.1), each (with_param ms p) keeps ps w.1)

  -- the signatures of oracles are of types that variables may have
  module _ (scoped : IsTypedScope (declared ds)) where
    abbrev AreVariables : Signature → Type 0
    AreVariables s = HaveVariableTypes s.params × IsVariableType s.result

    in_signatures : (ms : Modules) (ps : List Param) (ss : List Signature) → AreSignatures ms ps ss → (f : Name) (s : Signature) → signature_in ss f ≡ Some s → AreVariables s
    in_signatures ms ps [] w f s e = absurd (none-some s e)
    in_signatures ms ps (u ∷ us) w f s e = step (bytes_eq f u.name) e (in_signatures ms ps us w.2 f s)
      where
        step : (b : Bool) → (if b then Some u else signature_in us f) ≡ Some s → (signature_in us f ≡ Some s → AreVariables s) → AreVariables s
        step true e go = subst AreVariables (same_Some u s e) (w.0.0, w.0.1)
        step false e go = go e

    in_type : (n : Name) (o : Option ModuleType) → module_type_of ds n ≡ o → (f : Name) (s : Signature) → signature_in (signatures_of o) f ≡ Some s → AreVariables s
    in_type n None k f s e = absurd (none-some s e)
    in_type n (Some t) k f s e =
        let x = type_in_scope ds scoped n t k in let b = x.before in let w = x.typed in in_signatures b.modules t.params t.signatures w.signatures f s e

    pub signature_variables : (ps : List Param) (u : Oracle) (s : Signature) → signature_for ps u ≡ Some s → AreVariables s
    signature_variables [] u s e = absurd (none-some s e)
    signature_variables (p ∷ ps) u s e = step (bytes_eq u.parameter p.name) e (signature_variables ps u s)
      where
        step : (b : Bool) → (if b then signature_in (signatures_at p) u.name else signature_for ps u) ≡ Some s → (signature_for ps u ≡ Some s → AreVariables s) → AreVariables s
        step true e go = in_type p.ty (module_type_of ds p.ty) refl u.name s e
        step false e go = go e
