-- All globals of a module are typed: those of an abstract one as a value, and equations of them.
use Rattle.std.proofs.Common.{◌≡◌, Bool, true, false, if◌then◌else◌, List, [], ◌∷◌, is_none, is_some, Option, Some, None, option_map, refl, ap, subst}
use Rattle.gb_core.specs.declared.place.Place.{Place}
use Rattle.gb_core.specs.declared.refusal.Why.TheVariants.{Argument, Syntax, TypeMismatch}
use Rattle.gb_core.specs.declared.ty.Ty.{Ty}
use Rattle.gb_core.specs.declared.ty.Ty.TheVariants as ty
use Rattle.gb_core.specs.declared.var.Var.{Var}
use Rattle.gb_core.specs.declared.var.Var.TheVariants.{Global, Local, Glob}
use Rattle.gb_terms.specs.declared.decl.TypedName.{TypedName}
use Rattle.gb_terms.specs.declared.module.Bind.{Bind}
use Rattle.gb_terms.specs.declared.module.Mexp.{Mexp}
use Rattle.gb_terms.specs.declared.module.Mexp.TheVariants.{Name as named, Apply'}
use Rattle.gb_terms.specs.declared.op.Op.TheVariants as op
use Rattle.gb_terms.specs.declared.op.Side.{Side}
use Rattle.gb_terms.specs.declared.op.Side.TheVariants as side
use Rattle.gb_terms.specs.declared.op.Read.TheVariants as read_of
use Rattle.gb_terms.specs.declared.term.Term.{Term}
use Rattle.gb_terms.specs.declared.term.Head.TheVariants.{Read}
use Rattle.gb_terms.specs.SameModules.{mexp_eq}
use Rattle.gb_script.specs.declared.head.Head.{Head}
use Rattle.gb_script.specs.declared.head.Head.TheVariants as head
use Rattle.gb_script.specs.declared.tree.Node.{Node}
use Rattle.gb_script.specs.Tree.{head_of, text_of, place_of}
use Rattle.gb_goal.specs.Answers.{◌>>=◌}
use Rattle.gb_goal.specs.Answers.Answer.{given, refused}
use Rattle.gb_goal.specs.Instances.{name_of}
use Rattle.gb_goal.specs.Scope.{abstract_of, module_of}
use Rattle.gb_typing.specs.Context.{Context}
use Rattle.gb_typing.proofs.Variables.{variable_finite}
use Rattle.gb_mods.specs.Footprint.{footprint}
use Rattle.gb_names.specs.declared.bindings.Binding.{Binding}
use Rattle.gb_names.specs.declared.setting.Variables.{Variables}
use Rattle.gb_names.specs.declared.setting.Variables.TheVariants.{Absent, Own, Sides}
use Rattle.gb_names.specs.Environment.{Name, Environment, may_read, on_side, sides_of}
use Rattle.gb_names.specs.Names.{ModuleVariable, global_variable, has_memories, has_own, memory_at, path, side_of}
use Rattle.gb_names.specs.Wanted.{truth}
use Rattle.gb_elab.specs.Forms.{read}
use Rattle.gb_elab.specs.Globs.{Seen, agreed, agreement, agreement_on, agreements, agrees, as_value, bare_glob, behind_if, same_globals, global_named, is_abstract, memory_behind, memory_read, module_and_memory, owner, true_if_none, two_owners, whole_agrees, whole_alone, whole_equation, whole_read, whole_value, with_agreement}
use Rattle.gb_elab_laws.specs.Fitting.{reads_globals, AreReadable, IsFitting, IsGiven}
use Rattle.gb_elab_laws.proofs.Given.{given_bind, given_is, if_allowed, none_some, not_given}
use Rattle.gb_elab_laws.proofs.Leaves.{HasMemory, Stands, beside_typed, in_stands, own_memory, side_there, standing_typed, truth_typed}
use Rattle.gb_elab_laws.proofs.Remembered.{memory_is, remembered_globals}
use Rattle.gb_elab_laws.proofs.Typed.{Typed, IsSome, combined, leaf, truth_given}
use Rattle.gb_elab_laws.proofs.Types.{no_distribution}

-- where two programs are around, both memories are there
pub both_memories : (globs : Name → Bool) (reads : Bool) (c : Context) (vars : Variables) → AreReadable globs reads c vars → is_none (sides_of vars side.Left) ≡ false →
    HasMemory reads c side.Left × HasMemory reads c side.Right
both_memories globs reads c (Sides ls rs) h e = (record { side = tt; frame = h.1.memory; whole = h.0 }, record { side = tt; frame = h.2.memory; whole = h.0 })
both_memories globs reads c (Own ls) h e = cc
both_memories globs reads c Absent h e = cc

module _ {globs : Name → Bool} (c : Context) (at : Environment) (vs : List Binding) (fit : IsFitting globs c at vs) where
  abbrev Has : Side → Type 0
  Has s = HasMemory (reads_globals at.language) c s

  abbrev IsTruth : Term → Type 0
  IsTruth t = Typed globs c at.language ty.Bool t

  abbrev IsTruthIf : Option Term → Type 0
  IsTruthIf None = Unit {0}
  IsTruthIf (Some t) = IsTruth t

  named_stands : reads_globals at.language ≡ true → (x : Var) (g : ModuleVariable) → global_named at.declared x ≡ Some g → Stands c at vs fit g
  named_stands w (Global n x) g e = in_stands c at vs fit n (module_of at.declared n) x g (λ m i. fit.globals w n m i) e
  named_stands w (Local x) g e = none_some g e
  named_stands w (Glob n) g e = none_some g e

  behind_typed : (o : Option Term) (e : Term) → IsTruthIf o → IsTruth e → IsTruth (behind_if o e)
  behind_typed None e h k = k
  behind_typed (Some f) e h k = combined c at.language op.And ty.Bool ty.Bool ty.Bool f e tt (refl, (refl, (refl, tt))) h k

  -- all globals of an abstract module, as a value
  whole_typed : has_memories at.language ≡ true → (s : Side) → Has s → (a : Name) → is_some (abstract_of at.declared a) ≡ true → Typed globs c at.language (ty.Glob a) (whole_value s a)
  whole_typed may s h a b =
      leaf c at.language (Read (read_of.Program (Glob a) s)) (ty.Glob a) (fit.stand may a b) (h.side, refl) (h.frame, fit.together may a b, refl) tt (λ e. (e, e))

  with_typed : (o q : Option Term) → IsTruthIf o → IsTruthIf q → IsTruthIf (with_agreement o q)
  with_typed o None h k = h
  with_typed o (Some f) h k = behind_typed o f h k

  module _ (may : has_memories at.language ≡ true) (s r : Side) (l : Has s) (k : Has r) where
    agrees_typed : (g : ModuleVariable) → Stands c at vs fit g → IsTruth (agrees s r g)
    agrees_typed g h =
        combined c at.language op.Equal g.1.ty g.1.ty ty.Bool (global_variable s g) (global_variable r g) tt (no_distribution g.1.ty (variable_finite g.1.ty h.1), refl, refl)
        (standing_typed c at vs fit s l g h) (standing_typed c at vs fit r k g h)

    whole_agrees_typed : (a : Name) → is_some (abstract_of at.declared a) ≡ true → IsTruth (whole_agrees s r a)
    whole_agrees_typed a h =
        combined c at.language op.Equal (ty.Glob a) (ty.Glob a) ty.Bool (whole_value s a) (whole_value r a) tt (no_distribution (ty.Glob a) refl, refl, refl)
        (whole_typed may s l a h) (whole_typed may r k a h)

    global_agreed : (x : Var) (g : Option ModuleVariable) → global_named at.declared x ≡ g → IsTruthIf (option_map (agrees s r) g)
    global_agreed x None e = tt
    global_agreed x (Some g) e = agrees_typed g (named_stands l.whole x g e)

    whole_agreed : (a : Name) (b : Option Bind) → abstract_of at.declared a ≡ b → IsTruthIf (option_map (λ b. whole_agrees s r a) b)
    whole_agreed a None e = tt
    whole_agreed a (Some b) e = whole_agrees_typed a (ap is_some e)

    agreed_typed : (x : Var) → IsTruthIf (agreed at.declared s r x)
    agreed_typed (Glob a) = whole_agreed a (abstract_of at.declared a) refl
    agreed_typed (Global n x) = global_agreed (Global n x) (global_named at.declared (Global n x)) refl
    agreed_typed (Local x) = tt

    agreements_typed : (o : Option Term) (xs : List Var) → IsTruthIf o → IsTruthIf (agreements at.declared s r o xs)
    agreements_typed o [] h = h
    agreements_typed o (x ∷ xs) h = agreements_typed (with_agreement o (agreed at.declared s r x)) xs (with_typed o (agreed at.declared s r x) h (agreed_typed x))

    all_agree_typed : (o : Option Term) → IsTruthIf o → IsTruth (true_if_none o)
    all_agree_typed None h = truth_typed c at vs fit true
    all_agree_typed (Some f) h = h

    agreement_typed : (m : Mexp) (p : Place) (u : Term) → agreement at.declared m s r p ≡ given u → IsTruth u
    agreement_typed m p u e = step (footprint at.declared m) e
      where
        step : (o : Option (List Var)) → agreement_on at.declared s r p o ≡ given u → IsTruth u
        step None e = cc
        step (Some xs) e = subst IsTruth (given_is _ u e) (all_agree_typed (agreements at.declared s r None xs) (agreements_typed None xs tt))

  -- `={glob M}`
  pub same_globals_typed : has_memories at.language ≡ true → Has side.Left × Has side.Right → (t : Node) (u : Term) → same_globals at vs t ≡ given u → IsTruth u
  same_globals_typed may h t u e =
      let m = given_bind (owner at vs t) (λ m. agreement at.declared m side.Left side.Right (place_of t)) u e in
      agreement_typed may side.Left side.Right h.0 h.1 m.0 (place_of t) u m.2

  -- the memory in which all globals are read
  behind_has : has_memories at.language ≡ true → (k : Head) (n : Node) (p : Place) (s : Side) → memory_behind k n at vs p ≡ given s → Has s
  behind_has may head.Number n p s e =
      let i = given_bind (side_of (text_of n) p) _ s e in
      let k = if_allowed (is_some (on_side at i.0)) (given i.0) Argument p s i.2 in
      subst Has (given_is i.0 s k.1) (step i.0 (on_side at i.0) refl k.0)
    where
      step : (i : Side) (o : Option (List TypedName)) → on_side at i ≡ o → is_some o ≡ true → Has i
      step i (Some ls) f b = (side_there globs (reads_globals at.language) c at.variables i ls fit.variables f).memory
      step i None f b = cc
  behind_has may _ n p s e =
      let i = given_bind (memory_at at vs (text_of n) (place_of n)) _ s e in
      let k = if_allowed (may_read at.memories (text_of n)) (given i.0) Argument p s i.2 in
      let m = memory_is c at vs fit may (text_of n) (place_of n) i.0 i.1 in
      subst Has (given_is i.0 s k.1) (record { side = m.side; frame = m.frame; whole = remembered_globals at.language may })

  memory_has : has_memories at.language ≡ true → (o : Option Node) (p : Place) (s : Side) → memory_read at vs o p ≡ given s → Has s
  memory_has may None p s e =
      let k = if_allowed (has_own at.variables) (given side.Own) Argument p s e in
      subst Has (given_is side.Own s k.1) (own_memory globs (reads_globals at.language) c at.variables k.0 fit.variables)
  memory_has may (Some n) p s e = behind_has may (head_of n) n p s e

  read_may : (w : Seen) (r : Mexp × Side) → whole_read at vs w ≡ given r → has_memories at.language ≡ true
  read_may w r e = (if_allowed (has_memories at.language) (module_and_memory at vs w) Argument w.2 r e).0

  read_has : (w : Seen) (r : Mexp × Side) → whole_read at vs w ≡ given r → Has r.1
  read_has w r e =
      let k = if_allowed (has_memories at.language) (module_and_memory at vs w) Argument w.2 r e in
      let s = given_bind (memory_read at vs w.1 w.2) _ r k.1 in
      let m = given_bind (owner at vs w.0) (λ m. given (m, s.0)) r s.2 in
      subst (λ (z : Mexp × Side). Has z.1) (given_is (m.0, s.0) r m.2) (memory_has k.0 w.1 w.2 s.0 s.1)

  abstract_name : (m : Mexp) → is_abstract at.declared m ≡ true → is_some (abstract_of at.declared (name_of m)) ≡ true
  abstract_name (named a) e = e
  abstract_name (Apply' n k args) e = cc

  as_value_typed : has_memories at.language ≡ true → (m : Mexp × Side) → Has m.1 → (p : Place) (u : Term) → as_value at.declared m p ≡ given u → IsSome globs c at.language u
  as_value_typed may m h p u e =
      let k = if_allowed (is_abstract at.declared m.0) (given (whole_value m.1 (name_of m.0))) Argument p u e in
      subst (IsSome globs c at.language) (given_is (whole_value m.1 (name_of m.0)) u k.1) (ty.Glob (name_of m.0), whole_typed may m.1 h (name_of m.0) (abstract_name m.0 k.0))

  -- all globals of a module that aren't compared
  pub whole_alone_typed : (o : Option Seen) (p : Place) (u : Term) → whole_alone at vs o p ≡ given u → IsSome globs c at.language u
  whole_alone_typed None p u e = absurd (not_given Syntax p u e)
  whole_alone_typed (Some w) p u e =
      let r = given_bind (whole_read at vs w) (λ m. as_value at.declared m p) u e in as_value_typed (read_may w r.0 r.1) r.0 (read_has w r.0 r.1) p u r.2

  -- a form with a side
  pub read_typed : (k : Head) (x : Name) (xs : List Node) (p : Place) (s : Node) (u : Term) → read at vs k x xs p s ≡ given u → IsSome globs c at.language u
  read_typed head.Name x xs p s u h = beside_typed c at vs fit (head_of s) s x p u h
  read_typed head.Path x xs p s u h = beside_typed c at vs fit (head_of s) s (path xs) p u h
  read_typed head.Glob x xs p s u h = whole_alone_typed (bare_glob xs (Some s) p) p u h
  read_typed _ x xs p s u h = absurd (not_given _ _ u h)

  of_both_typed : has_memories at.language ≡ true → (l r : Mexp × Side) → Has l.1 → Has r.1 → (p q t : Place) (b : Bool) (u : Term) →
      (if b then agreement at.declared l.0 l.1 r.1 p else two_owners at.declared l r q t) ≡ given u → IsTruth u
  of_both_typed may l r h k p q t true u e = agreement_typed may l.1 r.1 h k l.0 p u e
  of_both_typed may l r h k p q t false u e =
      let a = given_bind (as_value at.declared l q) (λ _. as_value at.declared r t >>= λ _. refused TypeMismatch t) u e in
      let b = given_bind (as_value at.declared r t) (λ _. refused TypeMismatch t) u a.2 in
      absurd (not_given TypeMismatch t u b.2)

  -- an equation in two memories
  pub whole_equation_typed : (w : Option Ty) (p : Place) (a b : Seen) (u : Term) → whole_equation at vs w p a b ≡ given u → IsGiven globs c at.language w u
  whole_equation_typed w p a b u e =
      let q = given_bind (truth w p) _ u e in
      let l = given_bind (whole_read at vs a) _ u q.2 in
      let r = given_bind (whole_read at vs b) _ u l.2 in
      truth_given c at.language w p q.0 u q.1 (of_both_typed (read_may a l.0 l.1) l.0 r.0 (read_has a l.0 l.1) (read_has b r.0 r.1) p a.2 b.2 (mexp_eq l.0.0 r.0.0) u r.2)
