-- What the names of modules and of module types stand for in a typed scope.
use Rattle.std.proofs.Common.{◌≡◌, Bool, true, false, if◌then◌else◌, [], ◌∷◌, ◌++◌, Option, Some, None, bytes_eq, refl, ap, sym, ◌∙◌, subst}
use Rattle.gb_terms.specs.declared.module.Bind.{Bind}
use Rattle.gb_goal.specs.Scope as scope
use Rattle.gb_goal.specs.Scope.{as_module_type, entry_of, module_type_of}
use Rattle.gb_goal.specs.declared.scope.Entry.{Entry}
use Rattle.gb_goal.specs.declared.scope.Entry.TheVariants as entry
use Rattle.gb_meaning.specs.Names.{Name}
use Rattle.gb_meaning.specs.Written.{local_type}
use Rattle.gb_meaning.specs.Declared.{Declarations, declaration_of, declared}
use Rattle.gb_typing.specs.Context.{Context}
use Rattle.gb_typing.specs.Formulas.{IsKnown}
use Rattle.gb_typing.specs.Modules.{Interface, functor_type, of_functor_type}
use Rattle.gb_typing.specs.Scopes.{interface_with, procedure_types, nothing, with_declared, with_each, context_of, is_declared, IsDeclared, AreTypedAfter, IsTypedScope}
use Rattle.gb_typing.proofs.Operators.{declared_more, declared_last, other_name}
use Rattle.gb_elab_prog.specs.Bound.{is_module}

-- an abstract module
abbrev of_binder : Context → Bind → Option Interface
of_binder c b = Some (of_functor_type (functor_type c.modules.types (c.modules.types b.ty)))

-- a name stands for the same module, with the same globals, and for the same module type
pub record Same (n : Name) (d c : Context) : Type 0 where
  pub interfaces : d.modules.interfaces n ≡ c.modules.interfaces n
  pub types : d.modules.types n ≡ c.modules.types n
  pub globals : (x : Name) → d.global n x ≡ c.global n x

same_on : (n : Name) (e d c : Context) → Same n e d → Same n d c → Same n e c
same_on n e d c s t = record { interfaces = s.interfaces ∙ t.interfaces; types = s.types ∙ t.types; globals = λ x. s.globals x ∙ t.globals x }

-- a declaration leaves what other names stand for
others_stay : (c : Context) (k : Name) (e : Entry) (n : Name) → IsDeclared c k (declaration_of e) → bytes_eq n k ≡ false → Same n (with_declared c k (declaration_of e)) c
others_stay c k (entry.Module m) n w o = record {
  interfaces = ap (λ (b : Bool). if b then Some (interface_with c.modules.types m.params (procedure_types m.procs)) else c.modules.interfaces n) o;
  types = refl;
  globals = λ x. ap (λ (b : Bool). if b then local_type m.globals x else c.global n x) o;
}
others_stay c k (entry.AbstractModule b) n w o = record {
  interfaces = ap (λ (x : Name). if bytes_eq n x then of_binder c b else c.modules.interfaces n) w.0 ∙ ap (λ (z : Bool). if z then of_binder c b else c.modules.interfaces n) o;
  types = refl;
  globals = λ x. refl;
}
others_stay c k (entry.ModuleType t) n w o = record {
  interfaces = refl;
  types = ap (λ (b : Bool). if b then Some t else c.modules.types n) o;
  globals = λ x. refl;
}
others_stay c k _ n w o = record { interfaces = refl; types = refl; globals = λ x. refl }

-- what is declared later leaves what is declared
pub stays : (ds : scope.Declarations) (before : Declarations) (c : Context) (n : Name) → is_declared before n ≡ true → AreTypedAfter c before (declared ds) → Same n (with_each c (declared ds)) c
stays [] before c n d w = record { interfaces = refl; types = refl; globals = λ x. refl }
stays ((k, e) ∷ ds) before c n d w =
    let x = declaration_of e in
    same_on n (with_each (with_declared c k x) (declared ds)) (with_declared c k x) c
    (stays ds (before ++ (k, x) ∷ []) (with_declared c k x) n (declared_more before (k, x) n d) w.2) (others_stay c k e n w.1 (other_name before n k d w.0))

-- Module types.

type_here : (c : Context) (k : Name) (e : Entry) (n : Name) → bytes_eq n k ≡ true → c.modules.types n ≡ None → (with_declared c k (declaration_of e)).modules.types n ≡ as_module_type (Some e)
type_here c k (entry.ModuleType t) n i h = ap (λ (b : Bool). if b then Some t else c.modules.types n) i
type_here c k _ n i h = h

types_after : (ds : scope.Declarations) (before : Declarations) (c : Context) → AreTypedAfter c before (declared ds) → (n : Name) → c.modules.types n ≡ None →
    (with_each c (declared ds)).modules.types n ≡ module_type_of ds n
types_after [] before c w n h = h
types_after ((k, e) ∷ ds) before c w n h =
    let x = declaration_of e in step (types_after ds (before ++ (k, x) ∷ []) (with_declared c k x) w.2 n) (bytes_eq n k) refl
  where
    step : ((with_declared c k (declaration_of e)).modules.types n ≡ None → (with_each (with_declared c k (declaration_of e)) (declared ds)).modules.types n ≡ module_type_of ds n) → (b : Bool) →
        bytes_eq n k ≡ b → (with_each (with_declared c k (declaration_of e)) (declared ds)).modules.types n ≡ as_module_type (if b then Some e else entry_of ds n)
    step rest true i =
        let x = declaration_of e in
        let s = stays ds (before ++ (k, x) ∷ []) (with_declared c k x) n (declared_last before (k, x) n i) w.2 in
        s.types ∙ type_here c k e n i h
    step rest false i = let s = others_stay c k e n w.1 i in rest (s.types ∙ h)

-- Modules.

none_here : (c : Context) (k : Name) (e : Entry) (n : Name) → is_module (Some e) ≡ false → c.modules.interfaces n ≡ None → (with_declared c k (declaration_of e)).modules.interfaces n ≡ None
none_here c k (entry.Module m) n i h = cc
none_here c k (entry.AbstractModule b) n i h = cc
none_here c k _ n i h = h

none_after : (ds : scope.Declarations) (before : Declarations) (c : Context) → AreTypedAfter c before (declared ds) → (n : Name) → c.modules.interfaces n ≡ None → is_module (entry_of ds n) ≡ false →
    (with_each c (declared ds)).modules.interfaces n ≡ None
none_after [] before c w n h g = h
none_after ((k, e) ∷ ds) before c w n h g =
    let x = declaration_of e in step (none_after ds (before ++ (k, x) ∷ []) (with_declared c k x) w.2 n) (bytes_eq n k) refl g
  where
    step : ((with_declared c k (declaration_of e)).modules.interfaces n ≡ None → is_module (entry_of ds n) ≡ false → (with_each (with_declared c k (declaration_of e)) (declared ds)).modules.interfaces n ≡ None) →
        (b : Bool) → bytes_eq n k ≡ b → is_module (if b then Some e else entry_of ds n) ≡ false → (with_each (with_declared c k (declaration_of e)) (declared ds)).modules.interfaces n ≡ None
    step rest true i f =
        let x = declaration_of e in
        let s = stays ds (before ++ (k, x) ∷ []) (with_declared c k x) n (declared_last before (k, x) n i) w.2 in
        s.interfaces ∙ none_here c k e n f h
    step rest false i f = let s = others_stay c k e n w.1 i in rest (s.interfaces ∙ h) f

known_here : (c : Context) (k : Name) (e : Entry) (n : Name) → IsDeclared c k (declaration_of e) → bytes_eq n k ≡ true → is_module (Some e) ≡ true →
    IsKnown ((with_declared c k (declaration_of e)).modules.interfaces n)
known_here c k (entry.Module m) n w i h =
    subst (λ (z : Bool). IsKnown (if z then Some (interface_with c.modules.types m.params (procedure_types m.procs)) else c.modules.interfaces n)) (sym i) tt
known_here c k (entry.AbstractModule b) n w i h =
    subst (λ (z : Bool). IsKnown (if z then of_binder c b else c.modules.interfaces n)) (sym (ap (bytes_eq n) w.0 ∙ i)) tt
known_here c k _ n w i h = cc

known_after : (ds : scope.Declarations) (before : Declarations) (c : Context) → AreTypedAfter c before (declared ds) → (n : Name) → is_module (entry_of ds n) ≡ true →
    IsKnown ((with_each c (declared ds)).modules.interfaces n)
known_after [] before c w n g = cc
known_after ((k, e) ∷ ds) before c w n g =
    let x = declaration_of e in step (known_after ds (before ++ (k, x) ∷ []) (with_declared c k x) w.2 n) (bytes_eq n k) refl g
  where
    step : (is_module (entry_of ds n) ≡ true → IsKnown ((with_each (with_declared c k (declaration_of e)) (declared ds)).modules.interfaces n)) → (b : Bool) → bytes_eq n k ≡ b →
        is_module (if b then Some e else entry_of ds n) ≡ true → IsKnown ((with_each (with_declared c k (declaration_of e)) (declared ds)).modules.interfaces n)
    step rest true i f =
        let x = declaration_of e in
        let s = stays ds (before ++ (k, x) ∷ []) (with_declared c k x) n (declared_last before (k, x) n i) w.2 in
        subst IsKnown (sym s.interfaces) (known_here c k e n w.1 i f)
    step rest false i f = rest f

module _ (ds : scope.Declarations) (scoped : IsTypedScope (declared ds)) (n : Name) where
  -- the module type that a name stands for is the one that is declared
  pub type_known : (context_of (declared ds)).modules.types n ≡ module_type_of ds n
  type_known = types_after ds [] nothing scoped n refl

  -- where no module is declared, and no abstract one, none is known
  pub no_module : is_module (entry_of ds n) ≡ false → (context_of (declared ds)).modules.interfaces n ≡ None
  no_module e = none_after ds [] nothing scoped n refl e

  -- a module that is declared is known, also an abstract one
  pub some_module : is_module (entry_of ds n) ≡ true → IsKnown ((context_of (declared ds)).modules.interfaces n)
  some_module e = known_after ds [] nothing scoped n e
