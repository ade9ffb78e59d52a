-- The parameters of declared module types: their module types are known where these stand, and lack nothing.
use Rattle.std.proofs.Common.{◌≡◌, Bool, true, false, if◌then◌else◌, List, [], ◌∷◌, ◌++◌, map, Option, Some, None, bytes_eq, refl, ap, sym, ◌∙◌, subst}
use Rattle.gb_terms.specs.declared.decl.Param.{Param}
use Rattle.gb_goal.specs.Scope as scope
use Rattle.gb_goal.specs.Scope.{as_module_type, entry_of, module_type_of}
use Rattle.gb_goal.specs.Interfaces.{of_type, params_in, signature_types, signatures_of}
use Rattle.gb_goal.specs.declared.scope.Entry.{Entry}
use Rattle.gb_goal.specs.declared.scope.Entry.TheVariants as entry
use Rattle.gb_meaning.specs.Names.{Name}
use Rattle.gb_meaning.specs.Declared.{Declarations, ModuleType, declaration_of, declared}
use Rattle.gb_typing.specs.Context.{Context}
use Rattle.gb_typing.specs.Formulas.{IsKnown}
use Rattle.gb_typing.specs.Modules.{Modules, functor_type, of_functor_type, without_lacks}
use Rattle.gb_typing.specs.Scopes.{nothing, with_declared, with_each, with_param, context_of, AreParams, AreTypedAfter, IsModuleType, IsTypedScope}
use Rattle.gb_typing.specs.Suits.{lacked}
use Rattle.gb_typing.proofs.Agreed.{resolved}
use Rattle.gb_typing.proofs.Declaring.{KnowsDeclared, knows_next, knows_nothing}
use Rattle.gb_typing.proofs.Growing.{AreKnown, Keeps, KeepsTypes, keeps_on, known_on, known_params, scope_keeps}
use Rattle.gb_typing.proofs.Interfaces.{none_some, same_some}

-- A declared module type was typed where no more was known.
pub record TypeStands (d : Context) (t : ModuleType) : Type 0 where
  pub before : Context
  pub typed : IsModuleType before t
  pub keeps : Keeps before d

type_stands : (ds : scope.Declarations) (before : Declarations) (c : Context) → AreTypedAfter c before (declared ds) → KnowsDeclared before c → (n : Name) (t : ModuleType) → module_type_of ds n ≡ Some t →
    TypeStands (with_each c (declared ds)) t
type_stands [] before c w k n t e = none_some t e
type_stands ((h, x) ∷ ds) before c w k n t e = step (bytes_eq n h) (type_stands ds (before ++ (h, declaration_of x) ∷ []) (with_declared c h (declaration_of x)) w.2 (knows_next c h before k (declaration_of x) w.1) n t) e
  where
    here : (y : Entry) → AreTypedAfter c before ((h, declaration_of y) ∷ declared ds) → as_module_type (Some y) ≡ Some t → TypeStands (with_each (with_declared c h (declaration_of y)) (declared ds)) t
    here (entry.ModuleType u) v f = record {
      before = c;
      typed = subst (IsModuleType c) (same_some u t f) v.1;
      keeps = scope_keeps ((h, declaration_of (entry.ModuleType u)) ∷ declared ds) before c v k;
    }
    here _ v f = none_some t f

    step : (b : Bool) → (module_type_of ds n ≡ Some t → TypeStands (with_each (with_declared c h (declaration_of x)) (declared ds)) t) → as_module_type (if b then Some x else entry_of ds n) ≡ Some t →
        TypeStands (with_each (with_declared c h (declaration_of x)) (declared ds)) t
    step true later f = here x w f
    step false later f = later f

-- the module types of a typed scope, in its context
pub type_in_scope : (ds : scope.Declarations) → IsTypedScope (declared ds) → (n : Name) (t : ModuleType) → module_type_of ds n ≡ Some t → TypeStands (context_of (declared ds)) t
type_in_scope ds scoped n t e = type_stands ds [] nothing scoped knows_nothing n t e

-- .. and in later ones
pub type_later : (c d : Context) (t : ModuleType) → Keeps c d → TypeStands c t → TypeStands d t
type_later c d t k s = record { before = s.before; typed = s.typed; keeps = keeps_on s.before c d s.keeps k }

-- Module types whose parameters lack nothing.

abbrev pub ArePlainParams : (Name → Option ModuleType) → List Param → Type 0
ArePlainParams types [] = Unit {0}
ArePlainParams types (p ∷ ps) = (params_in (types p.ty) ≡ []) × ArePlainParams types ps

-- the module types of parameters lack nothing, wherever they are known
params_plain : (ms : Modules) (types : Name → Option ModuleType) → KeepsTypes ms.types types → (ps : List Param) → AreParams ms ps → ArePlainParams types ps
params_plain ms types keeps [] w = tt
params_plain ms types keeps (p ∷ ps) w = (at_known (ms.types p.ty) refl w.0.0 w.0.1, params_plain (with_param ms p) types keeps ps w.1)
  where
    at_known : (o : Option ModuleType) → ms.types p.ty ≡ o → IsKnown o → params_in o ≡ [] → params_in (types p.ty) ≡ []
    at_known None e k h = absurd k
    at_known (Some t) e k h = ap params_in (keeps p.ty t e) ∙ h

pub plain_there : (d : Context) (t : ModuleType) → TypeStands d t → ArePlainParams d.modules.types t.params
plain_there d t s =
    let before = s.before in
    let typed = s.typed in
    let keeps = s.keeps in
    params_plain before.modules d.modules.types keeps.types t.params typed.params

pub params_there : (d : Context) (t : ModuleType) → TypeStands d t → AreKnown d.modules.types t.params
params_there d t s =
    let before = s.before in
    let typed = s.typed in
    let keeps = s.keeps in
    known_on before.modules.types d.modules.types keeps.types t.params (known_params before.modules t.params typed.params)

-- what they stand for is a module that lacks what the parameters ask for
plain_lacked : (types : Name → Option ModuleType) (ps : List Param) → ArePlainParams types ps → map without_lacks (map (λ p. signature_types (signatures_of (types p.ty))) ps) ≡ lacked types ps
plain_lacked types [] w = refl
plain_lacked types (p ∷ ps) w =
    let one = sym w.0 in
    let rest = plain_lacked types ps w.1 in
    λ i. record { lacks = map (λ (q : Param). signature_types (signatures_of (types q.ty))) (one i); procedures = signature_types (signatures_of (types p.ty)) } ∷ rest i

-- any module of such a module type
pub of_plain : (types : Name → Option ModuleType) (t : ModuleType) → ArePlainParams types t.params → of_functor_type (functor_type types (Some t)) ≡ resolved types (of_type t)
of_plain types t w = let same = plain_lacked types t.params w in λ i. record { lacks = same i; procedures = signature_types t.signatures }
