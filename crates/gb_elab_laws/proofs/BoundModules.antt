-- What the binders of a lemma bind: values of types of variables, and abstract modules that may be declared behind what is declared.
use Rattle.std.proofs.Common.{◌≡◌, Bool, true, false, if◌then◌else◌, List, [], ◌∷◌, ◌++◌, Some, None, bytes_eq, ap, sym, ◌∙◌, subst}
use Rattle.std.proofs.lemmas.List.{append-nil, append_assoc, map-append}
use Rattle.gb_core.specs.declared.place.Place.{Place}
use Rattle.gb_core.specs.declared.ty.Ty.{Ty}
use Rattle.gb_terms.specs.declared.decl.TypedName.{TypedName}
use Rattle.gb_terms.specs.declared.module.Bind.{Bind}
use Rattle.gb_goal.specs.Answers.Answer.{given}
use Rattle.gb_goal.specs.Binders.{binder_entries}
use Rattle.gb_goal.specs.Scope.{Declarations, as_module_type, entry_of, module_type_of}
use Rattle.gb_goal.specs.declared.module_type.ModuleType.{ModuleType}
use Rattle.gb_goal.specs.declared.scope.Entry.TheVariants as entry
use Rattle.gb_script.specs.declared.head.Head.{Head}
use Rattle.gb_script.specs.declared.head.Head.TheVariants as head
use Rattle.gb_script.specs.declared.tree.Node.{Node}
use Rattle.gb_script.specs.Tree.{head_of, text_of, parts_of, place_of}
use Rattle.gb_meaning.specs.Names.{Name}
use Rattle.gb_names.specs.Binders.{of_type}
use Rattle.gb_names.specs.Names.{no_declared, spelled_by}
use Rattle.gb_names.specs.Types.{type_of as type_of_node}
use Rattle.gb_laws.specs.Finite.{IsVariableType}
use Rattle.gb_meaning.specs.Declared.{declared}
use Rattle.gb_typing.specs.Formulas.{AreModules, IsBinder, IsKnown}
use Rattle.gb_typing.specs.Modules.{Modules}
use Rattle.gb_typing.specs.Programs.{HaveVariableTypes}
use Rattle.gb_typing.specs.Scopes.{context_of, IsTypedScope}
use Rattle.gb_elab_prog.specs.declared.context.Bound.{Bound}
use Rattle.gb_elab_prog.specs.Bound.{is_module}
use Rattle.gb_elab_prog.specs.Contexts.{all_bound, all_excluded, around, binder, bound_by, excluded, memory_bound, module_bound, nothing_bound, taken, unbounded, values_bound}
use Rattle.gb_elab_prog.specs.Fresh.{free}
use Rattle.gb_elab_prog.specs.ModuleTypes.{module_type_at}
use Rattle.gb_elab_laws.specs.Fitting.{AreTypes}
use Rattle.gb_elab_laws.proofs.Declared.{declared_in}
use Rattle.gb_elab_laws.proofs.Given.{given_bind, given_is, if_allowed, none_some, some_given, not_given}
use Rattle.gb_elab_laws.proofs.Members.{free_is, unnamed}
use Rattle.gb_elab_laws.proofs.ModuleNames.{no_module, some_module, type_known}
use Rattle.gb_elab_laws.proofs.Scopes.{abstract_added}
use Rattle.gb_elab_laws.proofs.Types.{spelled_typed}

-- Values.

variable_of_type : (xs : List Node) (u : Ty) → IsVariableType u → HaveVariableTypes (of_type xs u)
variable_of_type [] u h = tt
variable_of_type (x ∷ xs) u h = (h, variable_of_type xs u h)

variable_both : (vs ws : List TypedName) → HaveVariableTypes vs → HaveVariableTypes ws → HaveVariableTypes (vs ++ ws)
variable_both [] ws h k = k
variable_both (v ∷ vs) ws h k = (h.0, variable_both vs ws h.1 k)

-- A module type that is declared is so before others.
earlier_type : (ds es : Declarations) (n : Name) (t : ModuleType) → module_type_of ds n ≡ Some t → module_type_of (ds ++ es) n ≡ Some t
earlier_type [] es n t e = none_some t e
earlier_type ((k, x) ∷ ds) es n t e = step (bytes_eq n k) (earlier_type ds es n t) e
  where
    step : (b : Bool) → (module_type_of ds n ≡ Some t → module_type_of (ds ++ es) n ≡ Some t) → as_module_type (if b then Some x else entry_of ds n) ≡ Some t →
        as_module_type (if b then Some x else entry_of (ds ++ es) n) ≡ Some t
    step true rest f = f
    step false rest f = rest f

-- Modules that are bound.

modules_behind : (ms : Modules) (ns : List Name) (n : Name) → AreModules ms ns → IsKnown (ms.interfaces n) → AreModules ms (ns ++ n ∷ [])
modules_behind ms [] n h k = (k, tt)
modules_behind ms (m ∷ ns) n h k = (h.0, modules_behind ms ns n h.1 k)

-- the entries of modules, and that of a further one
one_more : (ds : Declarations) (bs : List Bind) (b : Bind) → (ds ++ binder_entries bs) ++ (b.name, entry.AbstractModule b) ∷ [] ≡ ds ++ binder_entries (bs ++ b ∷ [])
one_more ds bs b =
    append_assoc ds (binder_entries bs) ((b.name, entry.AbstractModule b) ∷ [])
    ∙ ap (λ z. ds ++ z) (sym (map-append (λ (b : Bind). (b.name, entry.AbstractModule b)) bs (b ∷ [])))

-- what is bound so far
pub record IsBound (ds : Declarations) (b : Bound) : Type 0 where
  pub values : HaveVariableTypes b.values
  pub scope : IsTypedScope (declared (around ds b))

module _ (ds : Declarations) (scoped : IsTypedScope (declared ds)) where
  names : AreTypes ds
  names = let k = declared_in ds scoped in k.types

  values_typed : (b c : Bound) (x : Node) (xs : List Node) (t : Node) → values_bound ds b x xs t ≡ given c → IsBound ds b → IsBound ds c
  values_typed b c x xs t e h =
      let n = given_bind (taken b.names (x ∷ [])) _ c e in
      let m = given_bind (taken n.0 xs) _ c n.2 in
      let u = given_bind (type_of_node ds t) _ c m.2 in
      subst (IsBound ds) (given_is _ c u.2) (record {
        values = variable_both b.values (of_type (x ∷ xs) u.0) h.values (variable_of_type (x ∷ xs) u.0 (spelled_typed ds names t u.0 u.1));
        scope = h.scope;
      })

  memory_typed : (b c : Bound) (x : Node) → memory_bound b x ≡ given c → IsBound ds b → IsBound ds c
  memory_typed b c x e h =
      let n = given_bind (taken b.names (x ∷ [])) _ c e in subst (IsBound ds) (given_is _ c n.2) (record { values = h.values; scope = h.scope })

  module _ (bs : List Bind) (typed : IsTypedScope (declared (ds ++ binder_entries bs))) where
    abbrev here : Modules
    here = (context_of (declared (ds ++ binder_entries bs))).modules

    excluded_known : (m : Node) (n : Name) → excluded ds bs m ≡ given n → IsKnown (here.interfaces n)
    excluded_known m n e =
        let k = if_allowed (is_module (entry_of (ds ++ binder_entries bs) (spelled_by m))) (given (spelled_by m)) (no_declared None ds (spelled_by m)) (place_of m) n e in
        subst (λ z. IsKnown (here.interfaces z)) (given_is (spelled_by m) n k.1) (some_module (ds ++ binder_entries bs) typed (spelled_by m) k.0)

    all_known : (ns all : List Name) (ms : List Node) → AreModules here ns → all_excluded ds bs ns ms ≡ given all → AreModules here all
    all_known ns all [] h e = subst (AreModules here) (given_is ns all e) h
    all_known ns all (m ∷ ms) h e =
        let n = given_bind (excluded ds bs m) (λ n. all_excluded ds bs (ns ++ n ∷ []) ms) all e in
        all_known (ns ++ n.0 ∷ []) all ms (modules_behind here ns n.0 h (excluded_known m n.0 n.1)) n.2

    binder_typed : (x t : Node) (ns : List Name) (u : ModuleType) → entry_of (ds ++ binder_entries bs) (text_of x) ≡ None → module_type_at ds t ≡ given u → AreModules here ns →
        IsBinder (context_of (declared (ds ++ binder_entries bs))) (binder x t ns)
    binder_typed x t ns u e f k =
        let there : here.types (spelled_by t) ≡ Some u =
        type_known (ds ++ binder_entries bs) typed (spelled_by t)
        ∙ earlier_type ds (binder_entries bs) (spelled_by t) u (some_given (module_type_of ds (spelled_by t)) (no_declared None ds (spelled_by t)) (place_of t) u f) in
        record { free = no_module (ds ++ binder_entries bs) typed (text_of x) (ap is_module e); known = subst IsKnown (sym there) tt; minus = k; bounds = tt }

  module_typed : (b c : Bound) (x t : Node) (ms qs : List Node) → module_bound ds b x t ms qs ≡ given c → IsBound ds b → IsBound ds c
  module_typed b c x t ms qs e h =
      let n = given_bind (taken b.names (x ∷ [])) _ c e in
      let o = given_bind (free (around ds b) x) _ c n.2 in
      let u = given_bind (module_type_at ds t) _ c o.2 in
      let m = given_bind (all_excluded ds b.modules [] ms) _ c u.2 in
      let z = given_bind (unbounded qs) _ c m.2 in
      let k : Bind = binder x t m.0 in
      subst (IsBound ds) (given_is _ c z.2) (record {
        values = h.values;
        scope =
            subst (λ es. IsTypedScope (declared es)) (one_more ds b.modules k)
            (abstract_added (around ds b) h.scope k (free_is (around ds b) x o.0 o.1)
            (binder_typed b.modules h.scope x t m.0 u.0 (unnamed (around ds b) x o.0 o.1) u.1 (all_known b.modules h.scope [] m.0 ms tt m.1)));
      })

  bound_typed : (b c : Bound) (k : Head) (ps : List Node) (p : Place) → bound_by ds b k ps p ≡ given c → IsBound ds b → IsBound ds c
  bound_typed b c head.Values (x ∷ xs ∷ t ∷ []) p e h = values_typed b c x (parts_of xs) t e h
  bound_typed b c head.Memory (x ∷ []) p e h = memory_typed b c x e h
  bound_typed b c head.ModuleBind (x ∷ t ∷ ms ∷ qs ∷ []) p e h = module_typed b c x t (parts_of ms) (parts_of qs) e h
  bound_typed b c _ ps p e h = absurd (not_given _ _ c e)

  pub all_typed : (b c : Bound) (xs : List Node) → all_bound ds b xs ≡ given c → IsBound ds b → IsBound ds c
  unfolding all_bound
  all_typed b c [] e h = subst (IsBound ds) (given_is b c e) h
  all_typed b c (x ∷ xs) e h =
      let n = given_bind (bound_by ds b (head_of x) (parts_of x) (place_of x)) _ c e in
      all_typed n.0 c xs n.2 (bound_typed b n.0 (head_of x) (parts_of x) (place_of x) n.1 h)

  pub none_typed : IsBound ds nothing_bound
  none_typed = record { values = tt; scope = subst (λ es. IsTypedScope (declared es)) (sym (append-nil ds)) scoped }
