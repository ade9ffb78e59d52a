-- Equations of variables of two programs, and of all globals of a module, are named.
use Rattle.std.proofs.Common.{◌≡◌, Bool, true, false, if◌then◌else◌, List, [], ◌∷◌, is_none, is_some, Option, Some, None, option_map, refl, ap, subst}
use Rattle.gb_core.specs.declared.place.Place.{Place}
use Rattle.gb_core.specs.declared.refusal.Why.TheVariants.{Argument, TypeMismatch}
use Rattle.gb_core.specs.declared.ty.Ty.{Ty}
use Rattle.gb_core.specs.declared.ty.Ty.TheVariants as ty
use Rattle.gb_core.specs.declared.var.Var.{Var}
use Rattle.gb_core.specs.declared.var.Var.TheVariants.{Glob, Global, Local}
use Rattle.gb_core.specs.SameTypes.{ty_eq}
use Rattle.gb_terms.specs.declared.decl.Module.{Module}
use Rattle.gb_terms.specs.declared.module.Bind.{Bind}
use Rattle.gb_terms.specs.declared.module.Mexp.{Mexp}
use Rattle.gb_terms.specs.declared.op.Op.TheVariants as op
use Rattle.gb_terms.specs.declared.op.Side.{Side}
use Rattle.gb_terms.specs.declared.op.Side.TheVariants as side
use Rattle.gb_terms.specs.declared.term.Term.{Term}
use Rattle.gb_terms.specs.Make.{applied, truth_literal}
use Rattle.gb_terms.specs.SameModules.{mexp_eq}
use Rattle.gb_script.specs.declared.head.Head.{Head}
use Rattle.gb_script.specs.declared.head.Head.TheVariants as head
use Rattle.gb_script.specs.declared.tree.Node.{Node}
use Rattle.gb_script.specs.Tree.{head_of, parts_of, place_of, text_of}
use Rattle.gb_goal.specs.Answers.{◌>>=◌}
use Rattle.gb_goal.specs.Answers.Answer.{given, refused}
use Rattle.gb_goal.specs.Scope.{Declarations, abstract_of, module_of}
use Rattle.gb_mods.specs.Footprint.{footprint}
use Rattle.gb_names.specs.declared.bindings.Binding.{Binding}
use Rattle.gb_names.specs.Environment.{Name, Environment, on_side}
use Rattle.gb_names.specs.Names.{ModuleVariable, global_in, global_variable, path, sided}
use Rattle.gb_names.specs.Wanted.{truth, type_of_term}
use Rattle.gb_elab.specs.Equalities.{equalities, equality, equation, equation_of, joined, with_equalities}
use Rattle.gb_elab.specs.Globs.{Seen, agreed, agreement, agreement_on, agreements, agrees, as_value, behind_if, global_named, owner, same_globals, true_if_none, two_owners, whole_agrees, whole_equation, whole_read, whole_value, with_agreement}
use Rattle.gb_print_names.specs.declared.bound_names.Enumeration.{Enumeration}
use Rattle.gb_shown.specs.Named.{IsNamed}
use Rattle.gb_shown.specs.Scopes.{IsNamedModule, IsNamedScope, IsNamedSetting, AreNamedBindings}
use Rattle.gb_shown.proofs.Given.{given_bind, given_is, not_given, if_allowed, if_refused, same_some}
use Rattle.gb_shown.proofs.FoundInForms.{module_found}
use Rattle.gb_shown.proofs.Leaves.{IsNamedGlobal, global_read, in_module, sided_read, whole_named}
use Rattle.gb_shown.proofs.Constants.{truth_named}
use Rattle.gb_shown.proofs.MadeForms.{operated}

module _ (es : List Enumeration) where
  abbrev pub IsNamedIf : Option Term → Type 0
  IsNamedIf None = Unit {0}
  IsNamedIf (Some t) = IsNamed es t

  joined_with : (f e : Term) → IsNamed es f → IsNamed es e → IsNamed es (applied op.And (f ∷ e ∷ []) ty.Bool)
  joined_with f e h k = operated es op.And (f ∷ e ∷ []) ty.Bool tt tt (h, (k, tt))

  equal_named : (l r : Term) → IsNamed es l → IsNamed es r → IsNamed es (applied op.Equal (l ∷ r ∷ []) ty.Bool)
  equal_named l r h k = operated es op.Equal (l ∷ r ∷ []) ty.Bool tt tt (h, (k, tt))

  behind_named : (o : Option Term) (e : Term) → IsNamedIf o → IsNamed es e → IsNamed es (behind_if o e)
  behind_named None e h k = k
  behind_named (Some f) e h k = joined_with f e h k

  with_named : (o q : Option Term) → IsNamedIf o → IsNamedIf q → IsNamedIf (with_agreement o q)
  with_named o None h k = h
  with_named o (Some f) h k = behind_named o f h k

  pub all_agree : (o : Option Term) → IsNamedIf o → IsNamed es (true_if_none o)
  all_agree None h = truth_named es true
  all_agree (Some f) h = h

  module _ (ds : Declarations) (scope : IsNamedScope es ds) where
    declared_global : (n x : Name) (g : ModuleVariable) → global_in n (module_of ds n) x ≡ Some g → IsNamedGlobal g
    declared_global n x g e = step (module_of ds n) refl e
      where
        step : (o : Option Module) → module_of ds n ≡ o → global_in n o x ≡ Some g → IsNamedGlobal g
        step None i f = cc
        step (Some m) i f = let k = module_found es ds scope n m i in in_module es n (Some m) x g k.0 (λ l j. subst (IsNamedModule es) (same_some j) k.1) f

    global_is : (x : Var) (g : ModuleVariable) → global_named ds x ≡ Some g → IsNamedGlobal g
    global_is (Global n x) g e = declared_global n x g e
    global_is _ g e = cc

    module _ (s r : Side) where
      global_agreed : (x : Var) (g : Option ModuleVariable) → global_named ds x ≡ g → IsNamedIf (option_map (agrees s r) g)
      global_agreed x None e = tt
      global_agreed x (Some g) e = let n = global_is x g e in equal_named (global_variable s g) (global_variable r g) (global_read es s g n) (global_read es r g n)

      whole_agreed : (a : Name) (b : Option Bind) → abstract_of ds a ≡ b → IsNamedIf (option_map (λ b. whole_agrees s r a) b)
      whole_agreed a None e = tt
      whole_agreed a (Some b) e = let i = ap is_some e in equal_named (whole_value s a) (whole_value r a) (whole_named es ds scope s a i) (whole_named es ds scope r a i)

      agreed_named : (x : Var) → IsNamedIf (agreed ds s r x)
      agreed_named (Glob a) = whole_agreed a (abstract_of ds a) refl
      agreed_named (Global n x) = global_agreed (Global n x) (global_named ds (Global n x)) refl
      agreed_named (Local x) = tt

      -- the same globals in two memories
      pub agreements_named : (o : Option Term) (xs : List Var) → IsNamedIf o → IsNamedIf (agreements ds s r o xs)
      agreements_named o [] h = h
      agreements_named o (x ∷ xs) h = agreements_named (with_agreement o (agreed ds s r x)) xs (with_named o (agreed ds s r x) h (agreed_named x))

      agreement_named : (m : Mexp) (p : Place) (u : Term) → agreement ds m s r p ≡ given u → IsNamed es u
      agreement_named m p u e = step (footprint ds m) e
        where
          step : (o : Option (List Var)) → agreement_on ds s r p o ≡ given u → IsNamed es u
          step None e = cc
          step (Some xs) e = subst (IsNamed es) (given_is (true_if_none (agreements ds s r None xs)) u e) (all_agree (agreements ds s r None xs) (agreements_named None xs tt))

module _ (es : List Enumeration) (at : Environment) (fit : IsNamedSetting es at) (bs : List Binding) (bound : AreNamedBindings bs) where
  -- `={glob M}`
  same_globals_named : (t : Node) (u : Term) → same_globals at bs t ≡ given u → IsNamed es u
  same_globals_named t u e =
      let m = given_bind (owner at bs t) (λ m. agreement at.declared m side.Left side.Right (place_of t)) u e in agreement_named es at.declared fit.scope side.Left side.Right m.0 (place_of t) u m.2

  of_both_named : (l r : Mexp × Side) (p q t : Place) (b : Bool) (u : Term) → (if b then agreement at.declared l.0 l.1 r.1 p else two_owners at.declared l r q t) ≡ given u → IsNamed es u
  of_both_named l r p q t true u e = agreement_named es at.declared fit.scope l.1 r.1 l.0 p u e
  of_both_named l r p q t false u e =
      let a = given_bind (as_value at.declared l q) (λ _. as_value at.declared r t >>= λ _. refused TypeMismatch t) u e in
      let b = given_bind (as_value at.declared r t) (λ _. refused TypeMismatch t) u a.2 in
      absurd (not_given TypeMismatch t u b.2)

  -- an equation in two memories
  pub whole_equation_named : (w : Option Ty) (p : Place) (a b : Seen) (u : Term) → whole_equation at bs w p a b ≡ given u → IsNamed es u
  whole_equation_named w p a b u e =
      let q = given_bind (truth w p) _ u e in
      let l = given_bind (whole_read at bs a) _ u q.2 in
      let r = given_bind (whole_read at bs b) _ u l.2 in
      of_both_named l.0 r.0 p a.2 b.2 (mexp_eq l.0.0 r.0.0) u r.2

  -- the equality of a variable of two programs
  equality_named : (x : Name) (p : Place) (u : Term) → equality at bs x p ≡ given u → IsNamed es u
  unfolding equality
  equality_named x p u h =
      let l = given_bind (sided at bs x side.Left p) _ u h in
      let r = given_bind (sided at bs x side.Right p) _ u l.2 in
      let e = applied op.Equal (l.0 ∷ r.0 ∷ []) ty.Bool in
      let k = if_allowed (ty_eq (type_of_term r.0) (type_of_term l.0)) (given e) TypeMismatch p u r.2 in
      subst (IsNamed es) (given_is e u k.1) (equal_named es l.0 r.0 (sided_read es at fit bs bound x side.Left p l.0 l.1) (sided_read es at fit bs bound x side.Right p r.0 r.1))

  equation_named : (k : Head) (x : Name) (ns : List Node) (p : Place) (u : Term) → equation at bs k x ns p ≡ given u → IsNamed es u
  equation_named head.Name x ns p u h = equality_named x p u h
  equation_named head.Path x ns p u h = equality_named (path ns) p u h
  equation_named head.EquatedGlob x (m ∷ []) p u h = same_globals_named m u h
  equation_named _ x _ p u h = absurd (not_given _ _ u h)

  abbrev each_equation : (x : Node) (u : Term) → equation_of at bs x ≡ given u → IsNamed es u
  each_equation x = equation_named (head_of x) (text_of x) (parts_of x) (place_of x)

  with_equalities_named : (f : Term) (xs : List Node) (u : Term) → IsNamed es f → with_equalities at bs f xs ≡ given u → IsNamed es u
  unfolding with_equalities
  with_equalities_named f [] u m h = subst (IsNamed es) (given_is f u h) m
  with_equalities_named f (x ∷ xs) u m h =
      let q = given_bind (equation_of at bs x) (λ e. with_equalities at bs (applied op.And (f ∷ e ∷ []) ty.Bool) xs) u h in
      with_equalities_named (applied op.And (f ∷ q.0 ∷ []) ty.Bool) xs u (joined_with es f q.0 m (each_equation x q.0 q.1)) q.2

  joined_named : (xs : List Node) (u : Term) → joined at bs xs ≡ given u → IsNamed es u
  unfolding joined
  joined_named [] u h = subst (IsNamed es) (given_is (truth_literal true) u h) (truth_named es true)
  joined_named (x ∷ xs) u h = let q = given_bind (equation_of at bs x) (λ e. with_equalities at bs e xs) u h in with_equalities_named q.0 xs u (each_equation x q.0 q.1) q.2

  pub equalities_named : (xs : List Node) (w : Option Ty) (p : Place) (u : Term) → equalities at bs xs w p ≡ given u → IsNamed es u
  unfolding equalities
  equalities_named xs w p u h =
      let k = if_refused (is_none (on_side at side.Left)) Argument p (truth w p >>= λ _. joined at bs xs) u h in
      let q = given_bind (truth w p) (λ _. joined at bs xs) u k.1 in joined_named xs u q.2
