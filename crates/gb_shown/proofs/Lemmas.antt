-- The statements of lemmas.
use Rattle.std.proofs.Common.{◌≡◌, ℕ, true, List, [], ◌∷◌, ◌++◌, Option, Some, None, refl, subst}
use Rattle.std.specs.List.{AllByRecursion}
use Rattle.gb_core.specs.declared.place.Place.{Place}
use Rattle.gb_core.specs.declared.ty.Ty.TheVariants as ty
use Rattle.gb_terms.specs.declared.module.Bind.{Bind}
use Rattle.gb_goal.specs.Answers.Answer.{given}
use Rattle.gb_goal.specs.Binders.{binder_entries}
use Rattle.gb_goal.specs.Scope.{Declarations, entry_of, as_module_type, module_type_of}
use Rattle.gb_goal.specs.declared.module_type.ModuleType.{ModuleType}
use Rattle.gb_goal.specs.declared.scope.Entry.{Entry}
use Rattle.gb_goal.specs.declared.sequent.Sequent.{Sequent}
use Rattle.gb_script.specs.declared.head.Head.{Head}
use Rattle.gb_script.specs.declared.head.Head.TheVariants as head
use Rattle.gb_script.specs.declared.tree.Node.{Node}
use Rattle.gb_script.specs.Tree.{head_of, parts_of, place_of}
use Rattle.gb_names.specs.Environment.{statement}
use Rattle.gb_names.specs.Names.{spelled_by}
use Rattle.gb_names.specs.Types.{type_of}
use Rattle.gb_elab.specs.Forms.{elaborated}
use Rattle.gb_elab_prog.specs.Bound.{is_module}
use Rattle.gb_elab_prog.specs.declared.context.Bound.{Bound}
use Rattle.gb_elab_prog.specs.Contexts.{taken, values_bound, memory_bound, around, excluded, all_excluded, unbounded, binder, module_bound, bound_by, all_bound, nothing_bound, context_of}
use Rattle.gb_elab_prog.specs.Fresh.{free}
use Rattle.gb_elab_prog.specs.ModuleTypes.{module_type_at}
use Rattle.gb_elab_prog.specs.Sizes.{small}
use Rattle.gb_elab_mod.specs.Lemmas.{claimed, stated, statement_by, statement_given}
use Rattle.gb_elab_laws.proofs.Given.{given_bind, given_is, if_given, some_given, not_given}
use Rattle.gb_print_names.specs.declared.bound_names.Enumeration.{Enumeration}
use Rattle.gb_print.specs.Written.{is_name_text, is_path}
use Rattle.gb_shown.specs.Named.{IsNamed, IsNamedVariable, IsNamedBind}
use Rattle.gb_shown.proofs.Sequents.{all_append}
use Rattle.gb_shown.specs.Scopes.{IsNamedScope, IsNamedStatement}
use Rattle.gb_shown.specs.Words.{HasItsNames, IsName, IsReadTree}
use Rattle.gb_shown.proofs.Entries.{small_is}
use Rattle.gb_shown.proofs.FoundInScopes.{name_found}
use Rattle.gb_shown.proofs.OfForms.{OfForms}
use Rattle.gb_shown.proofs.Members.{of_type_named}
use Rattle.gb_shown.proofs.Settings.{IsNamedBound, context_named, in_context_named, seen_named, statement_named}
use Rattle.gb_shown.proofs.Trees.{AreRead, names_of, parts_read}

module _ (forms : OfForms) (es : List Enumeration) (ds : Declarations) (k : IsNamedScope es ds) where
  values_named : (b : Bound) → IsNamedBound b → (x : Node) (xs : List Node) (t : Node) → IsName x → AllByRecursion IsName xs → IsReadTree t → (c : Bound) → values_bound ds b x xs t ≡ given c → IsNamedBound c
  values_named b l x xs t n m r c e =
      let a = given_bind (taken b.names (x ∷ [])) _ c e in
      let d = given_bind (taken a.0 xs) _ c a.2 in
      let u = given_bind (type_of ds t) _ c d.2 in
      let w = forms.type es ds k t r u.0 u.1 in
      subst IsNamedBound (given_is _ c u.2)
      (record { values = all_append IsNamedVariable b.values _ l.values (of_type_named forms es ds k (x ∷ xs) (n, m) u.0 w.named); memories = l.memories; modules = l.modules })

  memory_named : (b : Bound) → IsNamedBound b → (x : Node) → IsName x → (c : Bound) → memory_bound b x ≡ given c → IsNamedBound c
  memory_named b l x n c e =
      let a = given_bind (taken b.names (x ∷ [])) _ c e in
      subst IsNamedBound (given_is _ c a.2) (record { values = l.values; memories = all_append (λ m. is_name_text m ≡ true) b.memories _ l.memories (n, tt); modules = l.modules })

  type_path : (x : List ℕ) (o : Option Entry) → entry_of ds x ≡ o → (t : ModuleType) → as_module_type o ≡ Some t → is_path x ≡ true
  type_path x (Some y) there t i = name_found es ds k x y there
  type_path x None there t i = absurd (cc)

  module_path : (bs : List Bind) → AllByRecursion IsNamedBind bs → (x : List ℕ) (o : Option Entry) → entry_of (ds ++ binder_entries bs) x ≡ o → is_module o ≡ true → is_path x ≡ true
  module_path bs l x (Some y) there i = name_found es (ds ++ binder_entries bs) (seen_named es ds k bs l) x y there
  module_path bs l x None there i = absurd (cc)

  -- the modules that an abstract one excludes have names
  excluded_named : (bs : List Bind) → AllByRecursion IsNamedBind bs → (m : Node) (n : List ℕ) → excluded ds bs m ≡ given n → is_path n ≡ true
  excluded_named bs l m n e =
      let a = if_given (is_module (entry_of (ds ++ binder_entries bs) (spelled_by m))) (spelled_by m) _ _ n e in
      subst (λ x. is_path x ≡ true) a.1 (module_path bs l (spelled_by m) (entry_of (ds ++ binder_entries bs) (spelled_by m)) refl a.0)

  all_excluded_named : (bs : List Bind) → AllByRecursion IsNamedBind bs → (ns : List (List ℕ)) → AllByRecursion (λ n. is_path n ≡ true) ns → (ms : List Node) (out : List (List ℕ)) → all_excluded ds bs ns ms ≡ given out →
      AllByRecursion (λ n. is_path n ≡ true) out
  all_excluded_named bs l ns w [] out e = subst (AllByRecursion (λ n. is_path n ≡ true)) (given_is ns out e) w
  all_excluded_named bs l ns w (m ∷ ms) out e =
      let a = given_bind (excluded ds bs m) _ out e in
      all_excluded_named bs l (ns ++ a.0 ∷ []) (all_append (λ n. is_path n ≡ true) ns (a.0 ∷ []) w (excluded_named bs l m a.0 a.1, tt)) ms out a.2

  module_named : (b : Bound) → IsNamedBound b → (x : Node) → IsName x → (t : Node) (ms qs : List Node) (c : Bound) → module_bound ds b x t ms qs ≡ given c → IsNamedBound c
  module_named b l x n t ms qs c e =
      let a = given_bind (taken b.names (x ∷ [])) _ c e in
      let f = given_bind (free (around ds b) x) _ c a.2 in
      let u = given_bind (module_type_at ds t) _ c f.2 in
      let m = given_bind (all_excluded ds b.modules [] ms) _ c u.2 in
      let q = given_bind (unbounded qs) _ c m.2 in
      let there = some_given (module_type_of ds (spelled_by t)) _ _ u.0 u.1 in
      let bind : IsNamedBind (binder x t m.0) = record { name = n; ty = type_path (spelled_by t) (entry_of ds (spelled_by t)) refl u.0 there; minus = all_excluded_named b.modules l.modules [] tt ms m.0 m.1; bounds = refl } in
      subst IsNamedBound (given_is _ c q.2) (record { values = l.values; memories = l.memories; modules = all_append IsNamedBind b.modules _ l.modules (bind, tt) })

  binder_named : (b : Bound) → IsNamedBound b → (h : Head) (ps : List Node) → HasItsNames h ps → AreRead ps → (p : Place) (c : Bound) → bound_by ds b h ps p ≡ given c → IsNamedBound c
  binder_named b l head.Values (x ∷ xs ∷ t ∷ []) n r p c e = values_named b l x (parts_of xs) t n.0 n.1 r.1.1.0 c e
  binder_named b l head.Values [] n r p c e = absurd (not_given _ _ c e)
  binder_named b l head.Values (x ∷ []) n r p c e = absurd (not_given _ _ c e)
  binder_named b l head.Values (x ∷ xs ∷ []) n r p c e = absurd (not_given _ _ c e)
  binder_named b l head.Values (x ∷ xs ∷ t ∷ u ∷ ps) n r p c e = absurd (not_given _ _ c e)
  binder_named b l head.Memory (x ∷ []) n r p c e = memory_named b l x n c e
  binder_named b l head.Memory [] n r p c e = absurd (not_given _ _ c e)
  binder_named b l head.Memory (x ∷ y ∷ ps) n r p c e = absurd (not_given _ _ c e)
  binder_named b l head.ModuleBind (x ∷ t ∷ ms ∷ qs ∷ []) n r p c e = module_named b l x n t (parts_of ms) (parts_of qs) c e
  binder_named b l head.ModuleBind [] n r p c e = absurd (not_given _ _ c e)
  binder_named b l head.ModuleBind (x ∷ []) n r p c e = absurd (not_given _ _ c e)
  binder_named b l head.ModuleBind (x ∷ t ∷ []) n r p c e = absurd (not_given _ _ c e)
  binder_named b l head.ModuleBind (x ∷ t ∷ ms ∷ []) n r p c e = absurd (not_given _ _ c e)
  binder_named b l head.ModuleBind (x ∷ t ∷ ms ∷ qs ∷ y ∷ ps) n r p c e = absurd (not_given _ _ c e)
  binder_named b l _ ps n r p c e = absurd (not_given _ _ c e)

  all_named : (b : Bound) → IsNamedBound b → (xs : List Node) → AreRead xs → (c : Bound) → all_bound ds b xs ≡ given c → IsNamedBound c
  unfolding all_bound
  all_named b l [] r c e = subst IsNamedBound (given_is b c e) l
  all_named b l (x ∷ xs) r c e =
      let a = given_bind (bound_by ds b (head_of x) (parts_of x) (place_of x)) _ c e in
      all_named a.0 (binder_named b l (head_of x) (parts_of x) (names_of x r.0) (parts_read x r.0) (place_of x) a.0 a.1) xs r.1 c a.2

  claimed_named : (b : Bound) → IsNamedBound b → (t : Node) → IsReadTree t → (q : Sequent) → claimed (around ds b) b t ≡ given q → IsNamedStatement es q
  unfolding claimed
  claimed_named b l t r q e =
      let a = given_bind (elaborated t (statement (around ds b) (context_of b)) [] (Some ty.Bool)) _ q e in
      let c = given_bind (small a.0) _ q a.2 in
      let scope = seen_named es ds k b.modules l.modules in
      let f = forms.form es (statement (around ds b) (context_of b)) (statement_named es (around ds b) scope (context_of b) (context_named es b l)) [] tt (Some ty.Bool) tt t r a.0 a.1 in
      let g = subst (IsNamed es) (small_is a.0 c.0 c.1) f in
      subst (IsNamedStatement es) (given_is _ q c.2) (record { sequent = in_context_named es b l c.0 g; conclusion = g })

  stated_named : (x : Node) (bs : List Node) (t : Node) → AreRead bs → IsReadTree t → (q : Sequent) → stated ds x bs t ≡ given q → IsNamedStatement es q
  unfolding stated
  stated_named x bs t r s q e =
      let a = given_bind (free ds x) _ q e in
      let b = given_bind (all_bound ds nothing_bound bs) _ q a.2 in
      claimed_named b.0 (all_named nothing_bound (record { values = tt; memories = tt; modules = tt }) bs r b.0 b.1) t s q b.2

  by_head : (h : Head) (ps : List Node) → AreRead ps → (p : Place) (q : Sequent) → statement_by ds h ps p ≡ given q → IsNamedStatement es q
  by_head head.Lemma (x ∷ bs ∷ t ∷ []) r p q e = stated_named x (parts_of bs) t (parts_read bs r.1.0) r.1.1.0 q e
  by_head head.Lemma [] r p q e = absurd (not_given _ _ q e)
  by_head head.Lemma (x ∷ []) r p q e = absurd (not_given _ _ q e)
  by_head head.Lemma (x ∷ bs ∷ []) r p q e = absurd (not_given _ _ q e)
  by_head head.Lemma (x ∷ bs ∷ t ∷ u ∷ ps) r p q e = absurd (not_given _ _ q e)
  by_head _ ps r p q e = absurd (not_given _ _ q e)

  -- the statement of a lemma
  pub statement_is_named : (t : Node) → IsReadTree t → (q : Sequent) → statement_given ds t ≡ given q → IsNamedStatement es q
  statement_is_named t r q e = by_head (head_of t) (parts_of t) (parts_read t r) (place_of t) q e
