-- What is known of abstract modules that are declared: each is any module of its module type.
use Rattle.std.proofs.Common.{◌≡◌, Bool, true, false, if◌then◌else◌, [], ◌∷◌, ◌++◌, Option, Some, bytes_eq, refl, ap, sym, ◌∙◌, subst}
use Rattle.gb_terms.specs.declared.module.Bind.{Bind}
use Rattle.gb_goal.specs.Scope as scope
use Rattle.gb_goal.specs.Scope.{entry_of}
use Rattle.gb_goal.specs.Interfaces.{of_type, params_in}
use Rattle.gb_goal.specs.declared.scope.Entry.{Entry}
use Rattle.gb_goal.specs.declared.scope.Entry.TheVariants as entry
use Rattle.gb_meaning.specs.Names.{Name}
use Rattle.gb_meaning.specs.Declared.{Declarations, ModuleType, abstract_module, declaration_of, declared}
use Rattle.gb_typing.specs.Context.{Context}
use Rattle.gb_typing.specs.Formulas.{IsKnown, with_module}
use Rattle.gb_typing.specs.Modules.{FunctorType, functor_type, of_functor_type}
use Rattle.gb_typing.specs.Scopes.{nothing, with_declared, with_each, context_of, AreTypedAfter, IsTypedScope}
use Rattle.gb_typing.proofs.Agreed.{resolved}
use Rattle.gb_typing.proofs.Declaring.{KnowsDeclared, knows_next, knows_nothing}
use Rattle.gb_typing.proofs.Growing.{AreKnown, HasParams, Keeps, keeps_on, known_some, next_params, same_at, same_functor, scope_keeps}
use Rattle.gb_typing.proofs.Interfaces.{none_some, same_some, same_name, itself}
use Rattle.gb_typing.proofs.ParameterTypes.{ArePlainParams, of_plain}

-- An abstract module, declared under its name, in a later context.
pub record AbstractStands (d : Context) (n : Name) (b : Bind) : Type 0 where
  pub before : Context
  pub name : b.name ≡ n
  pub known : IsKnown (before.modules.types b.ty)
  pub params : HasParams before.modules.types
  pub keeps : Keeps (with_module before b) d

abstract_stands : (ds : scope.Declarations) (before : Declarations) (c : Context) → AreTypedAfter c before (declared ds) → KnowsDeclared before c → HasParams c.modules.types → (n : Name) (b : Bind) →
    entry_of ds n ≡ Some (entry.AbstractModule b) → AbstractStands (with_each c (declared ds)) n b
abstract_stands [] before c w k has n b e = none_some (entry.AbstractModule b) e
abstract_stands ((h, x) ∷ ds) before c w k has n b e =
    step (bytes_eq n h) refl
    (abstract_stands ds (before ++ (h, declaration_of x) ∷ []) (with_declared c h (declaration_of x)) w.2 (knows_next c h before k (declaration_of x) w.1)
    (next_params c before h k has (declaration_of x) w.0 w.1) n b) e
  where
    here : bytes_eq n h ≡ true → AreTypedAfter c before ((h, abstract_module b) ∷ declared ds) → AbstractStands (with_each (with_module c b) (declared ds)) n b
    here q v = record {
      before = c;
      name = v.1.0 ∙ sym (same_name n h q);
      known = let y = v.1.1 in y.known;
      params = has;
      keeps = scope_keeps (declared ds) (before ++ (h, abstract_module b) ∷ []) (with_module c b) v.2 (knows_next c h before k (abstract_module b) v.1);
    }

    step : (t : Bool) → bytes_eq n h ≡ t → (entry_of ds n ≡ Some (entry.AbstractModule b) → AbstractStands (with_each (with_declared c h (declaration_of x)) (declared ds)) n b) →
        (if t then Some x else entry_of ds n) ≡ Some (entry.AbstractModule b) → AbstractStands (with_each (with_declared c h (declaration_of x)) (declared ds)) n b
    step true q later f =
        subst (λ (z : Entry). AreTypedAfter c before ((h, declaration_of z) ∷ declared ds) → AbstractStands (with_each (with_declared c h (declaration_of z)) (declared ds)) n b)
        (sym (same_some x (entry.AbstractModule b) f)) (here q) w
    step false q later f = later f

-- the abstract modules of a typed scope, in its context
pub abstract_in_scope : (ds : scope.Declarations) → IsTypedScope (declared ds) → (n : Name) (b : Bind) → entry_of ds n ≡ Some (entry.AbstractModule b) → AbstractStands (context_of (declared ds)) n b
abstract_in_scope ds scoped n b e = abstract_stands ds [] nothing scoped knows_nothing (λ h t e. none_some t e) n b e

-- .. and in later ones
pub abstract_later : (c d : Context) (n : Name) (b : Bind) → Keeps c d → AbstractStands c n b → AbstractStands d n b
abstract_later c d n b k s = record { before = s.before; name = s.name; known = s.known; params = s.params; keeps = keeps_on (with_module s.before b) c d s.keeps k }

module _ (d : Context) (n : Name) (b : Bind) (s : AbstractStands d n b) where
  abbrev before : Context
  before = s.before

  abbrev first : Name → Option ModuleType
  first = before.modules.types

  abbrev last : Name → Option ModuleType
  last = d.modules.types

  -- its module type is known there
  pub type_known : (t : ModuleType) × (last b.ty ≡ Some t)
  type_known = let x = known_some (first b.ty) s.known in let k = s.keeps in (x.0, k.types b.ty x.0 x.1)

  -- .. and asks for the same
  type_same : functor_type first (first b.ty) ≡ functor_type last (last b.ty)
  type_same =
      let x = known_some (first b.ty) s.known in
      let k = s.keeps in
      same_functor first last k.types (first b.ty) (subst (λ o. AreKnown first (params_in o)) (sym x.1) (s.params b.ty x.0 x.1)) ∙ ap (functor_type last) (same_at first last k.types b.ty s.known)

  named : d.modules.interfaces n ≡ Some (of_functor_type (functor_type first (first b.ty)))
  named =
      let k = s.keeps in
      k.interfaces n (of_functor_type (functor_type first (first b.ty)))
      (ap (λ (z : Bool). if z then Some (of_functor_type (functor_type first (first b.ty))) else before.modules.interfaces n) (ap (bytes_eq n) s.name ∙ itself n))

  -- it is any module of its module type
  pub abstract_is : (t : ModuleType) → last b.ty ≡ Some t → ArePlainParams last t.params → d.modules.interfaces n ≡ Some (resolved last (of_type t))
  abstract_is t e plain =
      named ∙ ap (λ (u : FunctorType). Some (of_functor_type u)) (type_same ∙ ap (functor_type last) e) ∙ ap Some (of_plain last t plain)
