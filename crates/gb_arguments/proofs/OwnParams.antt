-- The parameters of a module type that a typed scope knows have names of their own, and so have its signatures.
use Rattle.std.proofs.Common.{◌≡◌, Bool, true, false, List, [], ◌∷◌, ◌++◌, Option, Some, None, if◌then◌else◌, bytes_eq, refl, ap, sym, ◌∙◌, subst}
use Rattle.std.proofs.lemmas.Option.{none-some, same_Some}
use Rattle.std.proofs.lemmas.Slice.Eq.{bytes_eq-Decides}
use Rattle.gb_terms.specs.declared.decl.Param.{Param}
use Rattle.gb_meaning.specs.Names.{Name}
use Rattle.gb_meaning.specs.Declared.{Declarations, ModuleType, Signature, signature_in, abstract_type, abbreviation, operator, abstract_operator, module_type, concrete_module, abstract_module, axiom_of, lemma, terminating}
use Rattle.gb_typing.specs.Context.{Context}
use Rattle.gb_meaning.specs.Modules.{found}
use Rattle.gb_typing.specs.Modules.{Interface, Modules, functor_type, of_functor_type, signature_types}
use Rattle.gb_typing.specs.Scopes.{nothing, with_param, AreParams, AreSignatures, IsModuleType, with_declared, with_each, context_of, AreTypedAfter, IsTypedScope}
use Rattle.gb_arguments.proofs.Asked.{HaveOwnNames, ParamIsFresh}

known_param : (ms : Modules) (ps : List Param) → AreParams ms ps → (n : Name) (i : Interface) → ms.interfaces n ≡ Some i → ParamIsFresh n ps
known_param ms [] w n i e = tt
known_param ms (p ∷ ps) w n i e = (other (bytes_eq p.name n) refl, known_param (with_param ms p) ps w.1 n (later (bytes_eq n p.name)).0 (later (bytes_eq n p.name)).1)
  where
    other : (b : Bool) → bytes_eq p.name n ≡ b → b ≡ false
    other true h = absurd (none-some i (sym w.0.2 ∙ ap ms.interfaces ((bytes_eq-Decides p.name n).0 h) ∙ e))
    other false h = refl

    later : (b : Bool) → (j : Interface) × ((if b then Some (of_functor_type (functor_type ms.types (ms.types p.ty))) else ms.interfaces n) ≡ Some j)
    later true = (of_functor_type (functor_type ms.types (ms.types p.ty)), refl)
    later false = (i, e)

pub params_own : (ms : Modules) (ps : List Param) → AreParams ms ps → HaveOwnNames ps
params_own ms [] w = tt
params_own ms (p ∷ ps) w = (
  known_param (with_param ms p) ps w.1 p.name (of_functor_type (functor_type ms.types (ms.types p.ty)))
      (ap (λ (b : Bool). if b then Some (of_functor_type (functor_type ms.types (ms.types p.ty))) else ms.interfaces p.name) ((bytes_eq-Decides p.name p.name).1 refl)),
  params_own (with_param ms p) ps w.1,
)

-- What each module type has where it is declared, each that is known in the end has.
module _ (P : ModuleType → Type 0) (each : (c : Context) (t : ModuleType) → IsModuleType c t → P t) where
  abbrev HaveAll : (Name → Option ModuleType) → Type 0
  HaveAll types = (n : Name) (t : ModuleType) → types n ≡ Some t → P t

  all_each : (ds before : Declarations) (c : Context) → AreTypedAfter c before ds → HaveAll c.modules.types → HaveAll (with_each c ds).modules.types
  all_each [] before c w a = a
  all_each ((n, module_type t) ∷ ds) before c w a = all_each ds (before ++ (n, module_type t) ∷ []) (with_declared c n (module_type t)) w.2 (λ k u. one k u (bytes_eq k n))
    where
      one : (k : Name) (u : ModuleType) (b : Bool) → (if b then Some t else c.modules.types k) ≡ Some u → P u
      one k u true e = subst P (same_Some t u e) (each c t w.1)
      one k u false e = a k u e
  all_each ((n, abstract_type) ∷ ds) before c w a = all_each ds _ _ w.2 a
  all_each ((n, abbreviation x) ∷ ds) before c w a = all_each ds _ _ w.2 a
  all_each ((n, operator o) ∷ ds) before c w a = all_each ds _ _ w.2 a
  all_each ((n, abstract_operator o) ∷ ds) before c w a = all_each ds _ _ w.2 a
  all_each ((n, concrete_module m) ∷ ds) before c w a = all_each ds _ _ w.2 a
  all_each ((n, abstract_module b) ∷ ds) before c w a = all_each ds _ _ w.2 a
  all_each ((n, axiom_of q) ∷ ds) before c w a = all_each ds _ _ w.2 a
  all_each ((n, lemma q) ∷ ds) before c w a = all_each ds _ _ w.2 a
  all_each ((n, terminating f) ∷ ds) before c w a = all_each ds _ _ w.2 a

  pub known_types : (ds : Declarations) → IsTypedScope ds → (n : Name) (t : ModuleType) → (context_of ds).modules.types n ≡ Some t → P t
  known_types ds w = all_each ds [] nothing w (λ n t e. absurd (none-some t e))

pub own_params : (ds : Declarations) → IsTypedScope ds → (n : Name) (t : ModuleType) → (context_of ds).modules.types n ≡ Some t → HaveOwnNames t.params
own_params ds w n t e = known_types (λ t. HaveOwnNames t.params) (λ c t x. params_own c.modules t.params x.params) ds w n t e

-- Signatures have names of their own.

-- each of these signatures is found by its name
abbrev pub AreFound : List Signature → List Signature → Type 0
AreFound all [] = Unit {0}
AreFound all (s ∷ ss) = (found (signature_types all) s.name ≡ Some (record { params = s.params; result = s.result })) × AreFound all ss

other_name : (s : Signature) (ss : List Signature) (n : Name) → signature_in (s ∷ ss) n ≡ None → (bytes_eq s.name n ≡ false) × (signature_in ss n ≡ None)
other_name s ss n e = (other (bytes_eq s.name n) refl, later (bytes_eq n s.name) e)
  where
    at : n ≡ s.name → (if bytes_eq n s.name then Some s else signature_in ss n) ≡ Some s
    at q = ap (λ (b : Bool). if b then Some s else signature_in ss n) ((bytes_eq-Decides n s.name).1 q)

    other : (b : Bool) → bytes_eq s.name n ≡ b → b ≡ false
    other true h = absurd (none-some s (sym e ∙ at (sym ((bytes_eq-Decides s.name n).0 h))))
    other false h = refl

    later : (b : Bool) → (if b then Some s else signature_in ss n) ≡ None → signature_in ss n ≡ None
    later true h = absurd (none-some s (sym h))
    later false h = h

found_later : (s : Signature) (all us : List Signature) → signature_in us s.name ≡ None → AreFound all us → AreFound (s ∷ all) us
found_later s all [] e w = tt
found_later s all (u ∷ us) e w =
    let o = other_name u us s.name e in
    (ap (λ (b : Bool). if b then Some (record { params = s.params; result = s.result }) else found (signature_types all) u.name) o.0 ∙ w.0, found_later s all us o.1 w.1)

signatures_found : (ms : Modules) (ps : List Param) (ss : List Signature) → AreSignatures ms ps ss → AreFound ss ss
signatures_found ms ps [] w = tt
signatures_found ms ps (s ∷ ss) w = (
  ap (λ (b : Bool). if b then Some (record { params = s.params; result = s.result }) else found (signature_types ss) s.name) ((bytes_eq-Decides s.name s.name).1 refl),
  found_later s ss ss w.1 (signatures_found ms ps ss w.2),
)

pub own_signatures : (ds : Declarations) → IsTypedScope ds → (n : Name) (t : ModuleType) → (context_of ds).modules.types n ≡ Some t → AreFound t.signatures t.signatures
own_signatures ds w n t e = known_types (λ t. AreFound t.signatures t.signatures) (λ c t x. signatures_found c.modules t.params t.signatures x.signatures) ds w n t e
