-- What a name means is named.
use Rattle.std.proofs.Common.{◌≡◌, ℕ, Bool, true, false, if◌then◌else◌, List, [], is_some, Option, Some, None, option_map, bytes_eq, refl, ap, ◌∙◌, subst}
use Rattle.std.specs.List.{AllByRecursion}
use Rattle.std.specs.Option.{option_map_or}
use Rattle.std.specs.Path.{dot, rsplit_once}
use Rattle.std.proofs.lemmas.Slice.Eq.{bytes_eq-Decides}
use Rattle.gb_core.specs.declared.place.Place.{Place}
use Rattle.gb_core.specs.declared.refusal.Why.TheVariants.{Argument, UnknownName}
use Rattle.gb_core.specs.declared.ty.Ty.{Ty}
use Rattle.gb_core.specs.declared.ty.Ty.TheVariants as ty
use Rattle.gb_core.specs.declared.var.Var.TheVariants.{Local, Global, Glob}
use Rattle.gb_terms.specs.declared.decl.Module.{Module}
use Rattle.gb_terms.specs.declared.decl.TypedName.{TypedName}
use Rattle.gb_terms.specs.declared.module.Mexp.{Mexp}
use Rattle.gb_terms.specs.declared.module.Mexp.TheVariants.{Name as module_name, Apply'}
use Rattle.gb_terms.specs.declared.op.Side.{Side}
use Rattle.gb_terms.specs.declared.op.Side.TheVariants as side
use Rattle.gb_terms.specs.declared.op.Read.TheVariants as read_of
use Rattle.gb_terms.specs.declared.term.Term.{Term}
use Rattle.gb_terms.specs.declared.term.Head.TheVariants.{Read, Bound}
use Rattle.gb_terms.specs.Make.{node}
use Rattle.gb_script.specs.declared.head.Head.{Head}
use Rattle.gb_script.specs.declared.head.Head.TheVariants as head
use Rattle.gb_script.specs.declared.tree.Node.{Node}
use Rattle.gb_script.specs.Tree.{head_of, place_of, text_of}
use Rattle.gb_goal.specs.Answers.Answer.{given, refused}
use Rattle.gb_goal.specs.Instances.{name_of}
use Rattle.gb_goal.specs.Scope.{Declarations, abstract_of, as_abstract, entry_of, module_of}
use Rattle.gb_goal.specs.declared.scope.Entry.{Entry}
use Rattle.gb_names.specs.declared.bindings.Binding.{Binding}
use Rattle.gb_names.specs.declared.bindings.Kind.{Kind}
use Rattle.gb_names.specs.declared.bindings.Kind.TheVariants.{Value, Memory}
use Rattle.gb_names.specs.declared.setting.Variables.{Variables}
use Rattle.gb_names.specs.declared.setting.Variables.TheVariants.{Absent, Own, Sides}
use Rattle.gb_names.specs.Bindings.{binders_inside, innermost}
use Rattle.gb_names.specs.Environment.{Name, Environment, may_read, on_side, own, own_of, sides_of}
use Rattle.gb_names.specs.Locals.{locals_in}
use Rattle.gb_names.specs.Names.{ModuleVariable, Target, beside, bound_thing, bound_variable, first_named, global_at, global_in, global_of, global_target, global_variable, has_memories, has_own, hidden, in_memory, logical_variable, may_name, memory_at, module_if, named, named_around, names_other, needs_side, no_variable, number_before, own_global, path, program_variable, read_global, side_of, sided, target, unbound, unsided, variable_on}
use Rattle.gb_names.specs.Wanted.{counted}
use Rattle.gb_elab.specs.Forms.{read}
use Rattle.gb_elab.specs.Globs.{Seen, as_value, bare_glob, is_abstract, whole_alone, whole_read, whole_value}
use Rattle.gb_print_names.specs.declared.bound_names.Enumeration.{Enumeration}
use Rattle.gb_print.specs.Written.{is_path, is_target_here}
use Rattle.gb_shown.specs.Named.{IsNamedType, IsNamed, IsNamedVariable}
use Rattle.gb_shown.proofs.SpeltTrees.{node_named}
use Rattle.gb_shown.specs.Scopes.{IsNamedModule, IsNamedScope, IsNamedAround, IsNamedLocal, AreNamedVariables, IsNamedSetting, IsNamedKind, AreNamedBindings}
use Rattle.gb_shown.proofs.Given.{given_bind, given_is, not_given, if_allowed, if_refused, same_some, chosen, both_true}
use Rattle.gb_shown.proofs.Types.{as_result}
use Rattle.gb_shown.proofs.FoundInForms.{path_of, variable_found, binding_found, module_found}
use Rattle.gb_shown.proofs.FoundInScopes.{name_found}
use Rattle.gb_shown.proofs.Recalled.{locals_named}

mapped : {A B : Type 0} (f : A → B) (o : Option A) (y : B) → option_map f o ≡ Some y → (x : A) × (o ≡ Some x) × (f x ≡ y)
mapped f (Some x) y e = (x, refl, same_some e)
mapped f None y e = cc

-- what is there unless it is hidden
if_there : {A : Type 0} (b : Bool) (o : Option A) (y : A) → (if b then None else o) ≡ Some y → o ≡ Some y
if_there true o y e = cc
if_there false o y e = e

own_named : (vs : Variables) → AreNamedVariables vs → AllByRecursion IsNamedLocal (own_of vs)
own_named Absent h = tt
own_named (Own vs) h = h
own_named (Sides ls rs) h = tt

pub side_named : (vs : Variables) (s : Side) (ls : List TypedName) → AreNamedVariables vs → sides_of vs s ≡ Some ls → AllByRecursion IsNamedLocal ls
side_named (Sides ls rs) side.Left ms h e = subst (AllByRecursion IsNamedLocal) (same_some e) h.0
side_named (Sides ls rs) side.Right ms h e = subst (AllByRecursion IsNamedLocal) (same_some e) h.1
side_named _ s ms h e = cc

-- the variables and the names of a module
abbrev pub IsNamedGlobal : ModuleVariable → Type 0
IsNamedGlobal g = (is_path g.0 ≡ true) × IsNamedVariable g.1

module _ (es : List Enumeration) where
  -- a read of a local, and of a global
  local_read : (s : Side) (v : TypedName) → IsNamedLocal v → IsNamed es (program_variable s v)
  local_read s v h = node_named es (Read (read_of.Program (Local v.name) s)) [] v.ty (h.0, h.1) (as_result v.ty h.1) tt

  pub global_read : (s : Side) (g : ModuleVariable) → IsNamedGlobal g → IsNamed es (global_variable s g)
  global_read s g h =
      node_named es (Read (read_of.Program (Global g.0 g.1.name) s)) [] g.1.ty (both_true h.0 h.1.0, h.1.1) (as_result g.1.ty h.1.1) tt

  bound_read : (n : ℕ) (t : Ty) (u : Term) → IsNamedType t → bound_variable n t ≡ given u → IsNamed es u
  bound_read n t u k h =
      let q = given_bind (counted n) (λ i. given (node (Bound i) [] t)) u h in subst (IsNamed es) (given_is (node (Bound q.0) [] t) u q.2) (node_named es (Bound q.0) [] t k (as_result t k) tt)

  thing_read : (n : ℕ) (p : Place) (k : Kind) (u : Term) → IsNamedKind k → bound_thing n p k ≡ given u → IsNamed es u
  thing_read n p (Value t) u k h = bound_read n t u k h
  thing_read n p Memory u k h = cc

  logical_read : (n : ℕ) (v : TypedName) (u : Term) → IsNamedVariable v → logical_variable n v ≡ given u → IsNamed es u
  logical_read n v u k h =
      let q = given_bind (counted n) (λ i. given (node (Read (read_of.Logical i)) [] v.ty)) u h in
      subst (IsNamed es) (given_is (node (Read (read_of.Logical q.0)) [] v.ty) u q.2) (node_named es (Read (read_of.Logical q.0)) [] v.ty tt (as_result v.ty k.1) tt)

  pub in_module : (n : Name) (o : Option Module) (x : Name) (g : ModuleVariable) → is_path n ≡ true → ((m : Module) → o ≡ Some m → IsNamedModule es m) → global_in n o x ≡ Some g → IsNamedGlobal g
  in_module n None x g p h e = cc
  in_module n (Some m) x g p h e =
      let k = mapped (λ (v : TypedName). (n, v)) (first_named m.globals x) g e in
      let named = h m refl in
      subst IsNamedGlobal k.2 (p, variable_found IsNamedVariable m.globals x k.0 named.globals k.1)

  module _ (ds : Declarations) (scope : IsNamedScope es ds) where
    -- an abstract module that is declared has a path
    abstract_path : (a : Name) (o : Option Entry) → entry_of ds a ≡ o → is_some (as_abstract o) ≡ true → is_path a ≡ true
    abstract_path a (Some e) i h = name_found es ds scope a e i
    abstract_path a None i h = cc

    -- .. and all its globals are read under it
    pub whole_named : (s : Side) (a : Name) → is_some (abstract_of ds a) ≡ true → IsNamed es (whole_value s a)
    whole_named s a h = let p = abstract_path a (entry_of ds a) refl h in node_named es (Read (read_of.Program (Glob a) s)) [] (ty.Glob a) (p, p) p tt

  module _ (at : Environment) (fit : IsNamedSetting es at) where
    own_found : (o : Option Module) (x : Name) (g : ModuleVariable) → IsNamedAround es o → own_global o x ≡ Some g → IsNamedGlobal g
    own_found None x g h e = cc
    own_found (Some m) x g h e = in_module m.name (Some m) x g (path_of m.name h.name) (λ k i. subst (IsNamedModule es) (same_some i) h) e

    -- the module of a name: the one around, or a declared one
    module_around : (o : Option Module) (n : Name) (m : Module) → IsNamedAround es o → module_if o at.declared n ≡ Some m → (is_path n ≡ true) × IsNamedModule es m
    module_around None n m h e = module_found es at.declared fit.scope n m e
    module_around (Some k) n m h e = step (bytes_eq n k.name) refl e
      where
        step : (b : Bool) → bytes_eq n k.name ≡ b → (if b then Some k else module_of at.declared n) ≡ Some m → (is_path n ≡ true) × IsNamedModule es m
        step true i f = (ap is_path ((bytes_eq-Decides n k.name).0 i) ∙ path_of k.name h.name, subst (IsNamedModule es) (same_some f) h)
        step false i f = module_found es at.declared fit.scope n m f

    in_around : (n x : Name) (g : ModuleVariable) → global_in n (module_if at.inside at.declared n) x ≡ Some g → IsNamedGlobal g
    in_around n x g e = step (module_if at.inside at.declared n) refl e
      where
        step : (o : Option Module) → module_if at.inside at.declared n ≡ o → global_in n o x ≡ Some g → IsNamedGlobal g
        step None i f = cc
        step (Some m) i f = let k = module_around at.inside n m fit.around i in in_module n (Some m) x g k.0 (λ l j. subst (IsNamedModule es) (same_some j) k.1) f

    pub global_found : (bs : List Binding) (x : Name) (g : ModuleVariable) → global_at at bs x ≡ Some g → IsNamedGlobal g
    unfolding global_at
    global_found bs x g e = step (rsplit_once dot x) e
      where
        step : (o : Option (Name × Name)) → option_map_or (global_of at bs) o (own_global at.inside x) ≡ Some g → IsNamedGlobal g
        step (Some p) f = in_around p.0 p.1 g (if_there (hidden at bs p.0) (global_in p.0 (module_if at.inside at.declared p.0) p.1) g f)
        step None f = own_found at.inside x g fit.around f

    unsided_read : (bs : List Binding) (x : Name) (p : Place) (g : ModuleVariable) (u : Term) → global_at at bs x ≡ Some g → unsided at p g ≡ given u → IsNamed es u
    unsided_read bs x p g u e h =
        let a = given_bind (may_name at g.0 p) (λ _. if has_own at.variables then given (global_variable side.Own g) else refused Argument p) u h in
        let k = if_allowed (has_own at.variables) (given (global_variable side.Own g)) Argument p u a.2 in
        subst (IsNamed es) (given_is (global_variable side.Own g) u k.1) (global_read side.Own g (global_found bs x g e))

    unbound_read : (bs : List Binding) (x : Name) (p : Place) (u : Term) → unbound at bs x p ≡ given u → IsNamed es u
    unbound_read bs x p u h = let k = if_refused (names_other at bs x) Argument p (refused (UnknownName x) p) u h in absurd (not_given (UnknownName x) p u k.1)

    abstract_name : (m : Mexp) → is_abstract at.declared m ≡ true → is_some (abstract_of at.declared (name_of m)) ≡ true
    abstract_name (module_name a) e = e
    abstract_name (Apply' n k args) e = cc

    as_value_named : (m : Mexp × Side) (p : Place) (u : Term) → as_value at.declared m p ≡ given u → IsNamed es u
    as_value_named m p u e =
        let k = if_allowed (is_abstract at.declared m.0) (given (whole_value m.1 (name_of m.0))) Argument p u e in
        subst (IsNamed es) (given_is (whole_value m.1 (name_of m.0)) u k.1) (whole_named at.declared fit.scope m.1 (name_of m.0) (abstract_name m.0 k.0))

    module _ (bs : List Binding) (bound : AreNamedBindings bs) where
      -- a name without a side
      pub named_read : (x : Name) (p : Place) (u : Term) → named at bs x p ≡ given u → IsNamed es u
      unfolding named
      named_read x p u h =
          chosen (IsNamed es) (λ (b : Binding). bound_thing (binders_inside bs x) p b.kind) (innermost bs x) _ u
          (λ v e k. thing_read (binders_inside bs x) p v.kind u (binding_found bs x v bound e) k)
          (chosen (IsNamed es) (λ v. given (program_variable side.Own v)) (first_named (own at) x) _ u
          (λ v e k. subst (IsNamed es) (given_is (program_variable side.Own v) u k) (local_read side.Own v (variable_found IsNamedLocal (own at) x v (own_named at.variables fit.variables) e)))
          (λ e. around (if_refused (needs_side at x) (no_variable at bs x) p (named_around at bs x p) u e).1))
          h
        where
          around : named_around at bs x p ≡ given u → IsNamed es u
          around e =
              let q = at.sequent in
              let context = fit.context in
              chosen (IsNamed es) (logical_variable (number_before q.logical x)) (first_named q.logical x) _ u
              (λ v i k. logical_read (number_before q.logical x) v u (variable_found IsNamedVariable q.logical x v context.variables i) k)
              (chosen (IsNamed es) (unsided at p) (global_at at bs x) (unbound at bs x p) u (λ g i k. unsided_read bs x p g u i k) (unbound_read bs x p u))
              e

      variable_read : (x : Name) (s : Side) (p : Place) (ls : List TypedName) (u : Term) → AllByRecursion IsNamedLocal ls → variable_on at bs x s p ls ≡ given u → IsNamed es u
      variable_read x s p ls u o h =
          chosen (IsNamed es) (λ v. given (program_variable s v)) (first_named ls x) _ u
          (λ v e k. subst (IsNamed es) (given_is (program_variable s v) u k) (local_read s v (variable_found IsNamedLocal ls x v o e)))
          (chosen (IsNamed es) (read_global at s p) (global_at at bs x) (refused (no_variable at bs x) p) u global (λ e. absurd (not_given (no_variable at bs x) p u e)))
          (if_refused (is_some (innermost bs x)) Argument p _ u h).1
        where
          global : (g : ModuleVariable) → global_at at bs x ≡ Some g → read_global at s p g ≡ given u → IsNamed es u
          global g e k = let a = given_bind (may_name at g.0 p) (λ _. given (global_variable s g)) u k in subst (IsNamed es) (given_is (global_variable s g) u a.2) (global_read s g (global_found bs x g e))

      -- a name with a side
      pub sided_read : (x : Name) (s : Side) (p : Place) (u : Term) → sided at bs x s p ≡ given u → IsNamed es u
      unfolding sided
      sided_read x s p u h =
          chosen (IsNamed es) (variable_on at bs x s p) (on_side at s) (refused Argument p) u (λ ls e k. variable_read x s p ls u (side_named at.variables s ls fit.variables e) k)
          (λ e. absurd (not_given Argument p u e)) h

      -- a name in a named memory
      memory_read : (x : Name) (m : Node) (p : Place) (u : Term) → in_memory at bs x m p ≡ given u → IsNamed es u
      unfolding in_memory
      memory_read x m p u h =
          let s = given_bind (memory_at at bs (text_of m) (place_of m)) _ u h in
          let k = if_allowed (may_read at.memories (text_of m)) (variable_on at bs x s.0 p (locals_in at.sequent s.0 x)) Argument p u s.2 in
          variable_read x s.0 p (locals_in at.sequent s.0 x) u (locals_named es at.sequent fit.context s.0 x) k.1

      beside_read : (k : Head) (s : Node) (x : Name) (p : Place) (u : Term) → beside k s at bs x p ≡ given u → IsNamed es u
      beside_read head.Number s x p u h = let i = given_bind (side_of (text_of s) p) (λ i. sided at bs x i p) u h in sided_read x i.0 p u i.2
      beside_read _ m x p u h = let k = if_allowed (has_memories at.language) (in_memory at bs x m p) Argument p u h in memory_read x m p u k.1

      -- all globals of a module that aren't compared
      pub whole_alone_named : (o : Option Seen) (p : Place) (u : Term) → whole_alone at bs o p ≡ given u → IsNamed es u
      whole_alone_named None p u e = absurd (not_given _ _ u e)
      whole_alone_named (Some w) p u e = let r = given_bind (whole_read at bs w) (λ m. as_value at.declared m p) u e in as_value_named r.0 p u r.2

      -- a form with a side
      pub form_read : (k : Head) (x : Name) (ns : List Node) (p : Place) (s : Node) (u : Term) → read at bs k x ns p s ≡ given u → IsNamed es u
      form_read head.Name x ns p s u h = beside_read (head_of s) s x p u h
      form_read head.Path x ns p s u h = beside_read (head_of s) s (path ns) p u h
      form_read head.Glob x ns p s u h = whole_alone_named (bare_glob ns (Some s) p) p u h
      form_read _ x ns p s u h = absurd (not_given _ _ u h)

    -- what a statement writes
    abbrev pub IsNamedTarget : Target → Type 0
    IsNamedTarget t = (is_target_here [] t.0 ≡ true) × IsNamedType t.1

    pub target_named : (x : Name) (p : Place) (t : Target) → target at x p ≡ given t → IsNamedTarget t
    target_named x p t h =
        chosen IsNamedTarget (λ v. given (Local v.name, v.ty)) (first_named (own at) x) _ t
        (λ v e k. subst IsNamedTarget (given_is (Local v.name, v.ty) t k) (variable_found IsNamedLocal (own at) x v (own_named at.variables fit.variables) e))
        (chosen IsNamedTarget global_target (global_at at [] x) (refused (no_variable at [] x) p) t
        (λ g e k. let n = global_found [] x g e in subst IsNamedTarget (given_is (Global g.0 g.1.name, g.1.ty) t k) (both_true n.0 n.1.0, n.1.1))
        (λ e. absurd (not_given (no_variable at [] x) p t e)))
        h
