-- The globals that programs of a scope name are declared, and are those of a world that has what is declared.
use Rattle.std.proofs.Common.{◌≡◌, ◌⊎◌, inl, inr, if◌then◌else◌, Bool, true, false, List, [], ◌∷◌, ◌++◌, Some, None, option_map, refl, ap, sym, ◌∙◌, subst}
use Rattle.std.specs.Prelude.{bytes_eq}
use Rattle.gb_core.specs.declared.ty.Ty.{Ty}
use Rattle.gb_core.specs.declared.var.Var.TheVariants as var
use Rattle.gb_terms.specs.declared.decl.Module.{Module}
use Rattle.gb_terms.specs.declared.decl.TypedName.{TypedName}
use Rattle.gb_goal.specs.declared.scope.Entry.{Entry}
use Rattle.gb_goal.specs.declared.scope.Entry.TheVariants as entry
use Rattle.gb_goal.specs.Scope as scope
use Rattle.gb_goal.specs.Scope.{as_module, entry_of, module_of}
use Rattle.gb_names.specs.Names.{ModuleVariable, first_named, global_in}
use Rattle.gb_elab.specs.Globs.{global_named}
use Rattle.gb_meaning.specs.Declared.{Declarations, declaration_of, declared}
use Rattle.gb_meaning.specs.Names.{Name}
use Rattle.gb_meaning.specs.Naming.{IsFresh}
use Rattle.gb_meaning.specs.Programs.{AreIn}
use Rattle.gb_meaning.specs.Settings.{declared_globals, globals_from}
use Rattle.gb_meaning.specs.Typing.{global_type}
use Rattle.gb_meaning.specs.Values.{Global, World}
use Rattle.gb_meaning.specs.Written.{local_type}
use Rattle.gb_typing.specs.Context.{Context}
use Rattle.gb_typing.specs.Scopes.{AreTypedAfter, IsTypedScope, context_of, is_declared, nothing, with_declared, with_each}
use Rattle.gb_typing.proofs.Interfaces.{itself, none_some, same_name, same_some}
use Rattle.gb_arguments.proofs.AbstractNodes.{turned}
use Rattle.gb_arguments.proofs.FinalModules.{declared_last, fresh_later}

-- The globals of a scope.

module _ (m x : Name) (t : Ty) where
  -- the module that declares it, and the types that worlds give it which have what is declared
  pub record Owned (es : scope.Declarations) : Type 0 where
    pub owner : Module
    pub there : module_of es m ≡ Some owner
    pub local : local_type owner.globals x ≡ Some t
    pub world : (w : World) → AreIn w (declared_globals (declared es)) → global_type w m x ≡ Some t

  in_rest : (w : World) (ys zs : List Global) → AreIn w (ys ++ zs) → AreIn w zs
  in_rest w [] zs a = a
  in_rest w (y ∷ ys) zs a = in_rest w ys zs a.1

  in_globals : (w : World) (n : Name) (ls : List TypedName) (zs : List Global) → AreIn w (globals_from n ls ++ zs) → local_type ls x ≡ Some t → m ≡ n → global_type w m x ≡ Some t
  in_globals w n [] zs a e s = none_some t e
  in_globals w n (l ∷ ls) zs a e s = step (bytes_eq x l.name) refl e (λ e. in_globals w n ls zs a.1 e s)
    where
      step : (b : Bool) → bytes_eq x l.name ≡ b → (if b then Some l.ty else local_type ls x) ≡ Some t → (local_type ls x ≡ Some t → global_type w m x ≡ Some t) → global_type w m x ≡ Some t
      step true k e go = (λ i. global_type w (s i) (same_name x l.name k i)) ∙ a.0 ∙ e
      step false k e go = go e

  fresh_none : (es : scope.Declarations) → IsFresh (declared es) m → entry_of es m ≡ None
  fresh_none [] f = refl
  fresh_none ((h, e) ∷ es) f = ap (λ b. if b then Some e else entry_of es m) f.0 ∙ fresh_none es f.1

  more_globals : (w : World) (h : Name) (e : Entry) (es : scope.Declarations) → AreIn w (declared_globals (declared ((h, e) ∷ es))) → AreIn w (declared_globals (declared es))
  more_globals w h (entry.Module k) es a = in_rest w (globals_from h k.globals) (declared_globals (declared es)) a
  more_globals w h (entry.AbstractModule b) es a = a
  more_globals w h (entry.Lemma s bs) es a = a
  more_globals w h (entry.Type u) es a = a
  more_globals w h entry.AbstractType es a = a
  more_globals w h (entry.Constant u) es a = a
  more_globals w h (entry.Operator o) es a = a
  more_globals w h (entry.ModuleType u) es a = a
  more_globals w h (entry.AbstractOperator o) es a = a
  more_globals w h (entry.Terminating f) es a = a

  one_more : (c : Context) (h : Name) (e : Entry) (es : scope.Declarations) → (with_declared c h (declaration_of e)).global m x ≡ Some t → (c.global m x ≡ Some t) ⊎ Owned ((h, e) ∷ es)
  one_more c h (entry.Module k) es e = step (bytes_eq m h) refl e
    where
      step : (b : Bool) → bytes_eq m h ≡ b → (if b then local_type k.globals x else c.global m x) ≡ Some t → (c.global m x ≡ Some t) ⊎ Owned ((h, entry.Module k) ∷ es)
      step true q e = inr (record {
        owner = k;
        there = ap (λ b. as_module (if b then Some (entry.Module k) else entry_of es m)) q;
        local = e;
        world = λ w a. in_globals w h k.globals (declared_globals (declared es)) a e (same_name m h q);
      })
      step false q e = inl e
  one_more c h (entry.AbstractModule b) es e = inl e
  one_more c h (entry.Lemma s bs) es e = inl e
  one_more c h (entry.Type u) es e = inl e
  one_more c h entry.AbstractType es e = inl e
  one_more c h (entry.Constant u) es e = inl e
  one_more c h (entry.Operator o) es e = inl e
  one_more c h (entry.ModuleType u) es e = inl e
  one_more c h (entry.AbstractOperator o) es e = inl e
  one_more c h (entry.Terminating f) es e = inl e

  owned_after : (es : scope.Declarations) (before : Declarations) (c : Context) → AreTypedAfter c before (declared es) → (with_each c (declared es)).global m x ≡ Some t → (c.global m x ≡ Some t) ⊎ Owned es
  owned_after [] before c w e = inl e
  owned_after ((h, y) ∷ es) before c w e =
      step (owned_after es (before ++ (h, declaration_of y) ∷ []) (with_declared c h (declaration_of y)) w.2 e)
    where
      behind : Owned es → Owned ((h, y) ∷ es)
      behind o = record {
        owner = o.owner;
        there = by_name (bytes_eq m h) refl;
        local = o.local;
        world = λ w a. o.world w (more_globals w h y es a);
      }
        where
          by_name : (b : Bool) → bytes_eq m h ≡ b → as_module (if b then Some y else entry_of es m) ≡ Some o.owner
          by_name false q = o.there
          by_name true q =
              let there : is_declared (before ++ (h, declaration_of y) ∷ []) m ≡ true =
              subst (λ z. is_declared (before ++ (h, declaration_of y) ∷ []) z ≡ true) (sym (same_name m h q)) (declared_last before h (declaration_of y)) in
              none_some o.owner (sym (ap as_module (fresh_none es (fresh_later es _ _ w.2 m there))) ∙ o.there)

      step : ((with_declared c h (declaration_of y)).global m x ≡ Some t) ⊎ Owned es → (c.global m x ≡ Some t) ⊎ Owned ((h, y) ∷ es)
      step (inl e) = one_more c h y es e
      step (inr o) = inr (behind o)

  pub owned : (ds : scope.Declarations) → IsTypedScope (declared ds) → (context_of (declared ds)).global m x ≡ Some t → Owned ds
  owned ds scoped e = step (owned_after ds [] nothing scoped e)
    where
      step : (nothing.global m x ≡ Some t) ⊎ Owned ds → Owned ds
      step (inl e) = none_some t e
      step (inr o) = o

  -- the variable of this name
  named_local : (ls : List TypedName) → local_type ls x ≡ Some t → (v : TypedName) × (first_named ls x ≡ Some v) × (v.name ≡ x) × (v.ty ≡ t)
  named_local [] e = none_some t e
  named_local (l ∷ ls) e = step (bytes_eq x l.name) refl e (named_local ls)
    where
      step : (b : Bool) → bytes_eq x l.name ≡ b → (if b then Some l.ty else local_type ls x) ≡ Some t → (local_type ls x ≡ Some t → (v : TypedName) × (first_named ls x ≡ Some v) × (v.name ≡ x) × (v.ty ≡ t)) →
          (v : TypedName) × (first_named (l ∷ ls) x ≡ Some v) × (v.name ≡ x) × (v.ty ≡ t)
      step true k e go = (l, ap (λ b. if b then Some l else first_named ls x) (ap (λ z. bytes_eq l.name z) (same_name x l.name k) ∙ itself l.name), sym (same_name x l.name k), same_some l.ty t e)
      step false k e go = let v = go e in (v.0, ap (λ b. if b then Some l else first_named ls x) (turned x l.name k) ∙ v.1, v.2, v.3)

  -- a global that a scope knows is declared, at the type that the world gives it
  pub global_meant : (ds : scope.Declarations) → IsTypedScope (declared ds) → (w : World) → AreIn w (declared_globals (declared ds)) → (context_of (declared ds)).global m x ≡ Some t →
      (v : ModuleVariable) × (global_named ds (var.Global m x) ≡ Some v) × (v.0 ≡ m) × (v.1.name ≡ x) × (global_type w m x ≡ Some v.1.ty)
  global_meant ds scoped w a e =
      let o = owned ds scoped e in
      let v = named_local (let k = o.owner in k.globals) o.local in
      ((m, v.0), ap (λ k. global_in m k x) o.there ∙ ap (option_map (λ v. (let z : ModuleVariable = (m, v) in z))) v.1, refl, v.2, o.world w a ∙ ap (λ z. Some z) (sym v.3))
