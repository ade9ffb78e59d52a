-- What hypotheses with typed arguments say is typed, and is what they say.
use Rattle.std.proofs.Common.{◌≡◌, inl, inr, ℕ, ◌+◌, nat_lt, Bool, true, false, if◌then◌else◌, List, [], ◌∷◌, get_or, length, map, Option, Some, None, refl, ap, sym, ◌∙◌, subst, arith}
use Rattle.std.specs.Prelude.{bytes_eq}
use Rattle.std.specs.List.{AllByRecursion}
use Rattle.std.specs.Option.{option_map, option_map_or}
use Rattle.gb_core.specs.declared.place.Place.{Place}
use Rattle.gb_core.specs.declared.refusal.Why.TheVariants.{Argument}
use Rattle.gb_core.specs.declared.ty.Ty.{Ty}
use Rattle.gb_terms.specs.declared.term.Term.{Term, out-Term}
use Rattle.gb_terms.specs.declared.term.Head.{Head}
use Rattle.gb_terms.specs.declared.term.Head.TheVariants as head
use Rattle.gb_terms.specs.Make.{node}
use Rattle.gb_terms.specs.declared.decl.TypedName.{TypedName}
use Rattle.gb_terms.specs.declared.module.Bind.{Bind}
use Rattle.gb_terms.specs.declared.op.Side.{Side}
use Rattle.gb_terms.specs.declared.op.Side.TheVariants as side
use Rattle.gb_goal.specs.Answers.{◌>>=◌, given_or, not_built}
use Rattle.gb_meaning.specs.Names.{Name}
use Rattle.gb_goal.specs.Answers.Answer.{given, refused}
use Rattle.gb_goal.specs.Interfaces.{interface_at}
use Rattle.gb_goal.specs.Scope as scope
use Rattle.gb_goal.specs.Scope.{binders_of, lemma_of}
use Rattle.gb_goal.specs.declared.scope.Binder.{Binder}
use Rattle.gb_goal.specs.declared.scope.Binder.TheVariants.{Value, Memory, Module}
use Rattle.gb_goal.specs.declared.sequent.Hyp.{Hyp}
use Rattle.gb_goal.specs.declared.sequent.Sequent.{Sequent}
use Rattle.gb_script.specs.declared.head.Head.{Head as Kind}
use Rattle.gb_script.specs.declared.head.Head.TheVariants as text
use Rattle.gb_script.specs.declared.tree.Node.{Node}
use Rattle.gb_script.specs.Tree.{head_of, text_of, parts_of, place_of}
use Rattle.gb_meaning.proofs.Nodes.{each_is_node}
use Rattle.gb_laws.specs.Finite.{IsFinite}
use Rattle.gb_meaning.specs.Declared.{declared}
use Rattle.gb_instances.specs.Instance.{GivenModule, instance_of}
use Rattle.gb_laws.specs.Programs.{HaveFiniteTypes}
use Rattle.gb_laws.specs.Typing.{IsSide}
use Rattle.gb_laws.specs.Typing.Binder.{memory}
use Rattle.gb_typing.specs.Context.{Context, Frame, erased, local_in, within}
use Rattle.gb_typing.specs.Typing.{IsForm}
use Rattle.gb_typing.specs.Sequents.{of_sequent, with_modules, AreHypotheses, IsTypedSequent}
use Rattle.gb_typing.specs.Scopes.{context_of, IsTypedScope}
use Rattle.gb_typing.proofs.Conclusions.{formula_form}
use Rattle.gb_typing.proofs.Made.{parts_typed}
use Rattle.gb_typing.proofs.Lifted.{sequent_outermost}
use Rattle.gb_amb.specs.Closed.{IsAmong}
use Rattle.gb_amb.proofs.Cases.{conclusion_formula}
use Rattle.gb_amb.proofs.Wider.{small, wider}
use Rattle.gb_amb.specs.Witness.{at_memory}
use Rattle.gb_amb.specs.Instances.{Argument as UsedArgument, IsArgument, Says, at_argument}
use Rattle.gb_amb.specs.Instances.Argument.{of_value, of_memory}
use Rattle.gb_amb.specs.Lemmas.{AreBindersOf, AreFinite, for_binders, for_each_memory, for_each_value, generalized, IsKnown, IsOfStates}
use Rattle.gb_amb.proofs.Binders.{binders_typed, framed}
use Rattle.gb_amb.proofs.Foralls.{argument_typed}
use Rattle.gb_elab.specs.Forms.{elaborated}
use Rattle.gb_names.specs.Environment.{ambient}
use Rattle.gb_names.proofs.KnownModules.{module_known as expression_known}
use Rattle.gb_elab_mod.specs.OtherLocals.{is_local, reads_other_locals}
use Rattle.gb_elab_mod.specs.Multiples.{no_such}
use Rattle.gb_elab_mod.specs.Taken.{is_taken}
use Rattle.gb_elab_mod.specs.Uses.{about_all, about_memory, about_named, about_statement, about_value, all_hinted, by_modules, hinted, hinted_at, hypothesis_named, hypothesis, inside, is_memory, lemma_named, memory_of, module_given, modules_given, name_of, other_arguments, other_binders, said_about, said_by, said_of, said_of_all, said_of_memory, said_of_modules, said_on, said_plainly, said_with_modules, used, used_at, used_named, value_of, with_given}
use Rattle.gb_arguments.specs.Instance.{AreModulesOf}
use Rattle.gb_arguments.specs.Facts.{IsFact}
use Rattle.gb_elab_laws.specs.Procedures.{AreStated}
use Rattle.gb_elab_laws.proofs.Fits.{goal_fits}
use Rattle.gb_elab_laws.proofs.Forms.{elaborated_typed}
use Rattle.gb_elab_laws.proofs.Remembered.{IsNamedMemory, memory_is}
use Rattle.gb_elab_laws.proofs.AboutNamed.{local_stands, memory_typed}
use Rattle.gb_elab_laws.proofs.Given.{given_bind, given_is, if_refused, if_unbuilt, none_some, same_some, not_given}
use Rattle.gb_elab_laws.proofs.Shapes.{value_form}

-- what comes of a thing that is there
mapped : (h : Term → Term) (o : Option Term) (g : Term) → option_map h o ≡ Some g → (f : Term) × (o ≡ Some f) × (h f ≡ g)
mapped h None g e = cc
mapped h (Some f) g e = (f, refl, same_some (h f) g e)

module _ (ds : scope.Declarations) (scoped : IsTypedScope (declared ds)) (q : Sequent) (t : IsTypedSequent (context_of (declared ds)) q) where
  abbrev pub here : Context
  here = of_sequent (context_of (declared ds)) q t.frames

  abbrev base : Context
  base = with_modules (context_of (declared ds)) q.modules

  abbrev us : List Ty
  us = map (λ x. x.ty) q.logical

  abbrev ns : List Frame
  ns = map (λ l. Some l) t.frames

  here_small : here ≡ small base us ns
  here_small = sequent_outermost (declared ds) q t.frames

  argument_of : (a : Node) (u : Ty) → IsFinite u → (x : Term) → elaborated a (ambient ds q) [] (Some u) ≡ given x → IsArgument here u x
  argument_of a u f x h =
      let g = elaborated_typed a here (ambient ds q) [] (goal_fits ds scoped q t) (Some u) (value_form u f) x h in
      record { typed = g.typed; type = g.wanted }

  value_is : (a : Node) (u : Ty) → IsFinite u → (x : Term) → value_of ds q u a ≡ given x → IsArgument here u x
  value_is a u f x h = argument_of a u f x (if_refused (is_memory (head_of a)) Argument (place_of a) _ x h).1

  -- what a form says of one argument
  record Said (f g : Term) : Type 0 where
    argument : UsedArgument
    says : (es : List UsedArgument) (h : Term) → Says here g es h → Says here f (argument ∷ es) h
    form : IsForm here g

  -- a value
  value_said : (f g b : Term) (u : Ty) (a : Node) → IsForm here f → (out-Term f).head ≡ head.All u → (out-Term f).args ≡ b ∷ [] → said_of ds q (head.All u) (b ∷ []) a ≡ given g → Said f g
  value_said f g b u a w eh et k =
      let r = (out-Term f).ty in
      let whole : f ≡ node (head.All u) (b ∷ []) r = each_is_node f ∙ (λ i. node (eh i) (et i) r) in
      let v = subst (IsForm here) whole w in
      let p = parts_typed here (head.All u) (b ∷ []) r v.typed in
      let y = given_bind (value_of ds q u a) (λ x. given (at_argument b x)) g k in
      let x = value_is a u p.0.0 y.0 y.1 in
      let same : at_argument b y.0 ≡ g = given_is (at_argument b y.0) g y.2 in
      record {
        argument = of_value y.0;
        says = λ es h z. (u, b, r, whole, x, subst (λ t. Says here t es h) (sym same) z);
        form =
            subst (IsForm here) same
            (subst (λ d. IsForm d (node (head.All u) (b ∷ []) r) → IsArgument d u y.0 → IsForm d (at_argument b y.0)) (sym here_small) (λ v x. argument_typed base us ns u y.0 x b r v) v x);
      }

  -- a memory of the context
  pub record IsNamed (s : Side) : Type 0 where
    pub number : ℕ
    pub is : s ≡ side.Memory number
    pub named : IsNamedMemory here s

  named_is : (s : Side) → IsNamedMemory here s → IsNamed s
  named_is (side.Memory i) m = record { number = i; is = refl; named = m }
  named_is side.Own m = absurd m.place
  named_is side.Left m = absurd m.place
  named_is side.Right m = absurd m.place
  named_is (side.Bound i) m = absurd (subst (λ d. IsSide (erased d) (side.Bound i) → ⊥) (sym here_small) (λ w. w) m.side)

  pub memory_named : (h : Kind) (ps : List Node) (p : Place) (s : Side) → memory_of ds q h ps p ≡ given s → IsNamed s
  memory_named text.Memory (n ∷ []) p s e = named_is s (memory_is here (ambient ds q) [] (goal_fits ds scoped q t) refl (text_of n) (place_of n) s e)
  memory_named text.Memory [] p s e = absurd (not_given _ _ s e)
  memory_named text.Memory (n ∷ m ∷ ps) p s e = absurd (not_given _ _ s e)
  memory_named _ ps p s e = absurd (not_given _ _ s e)

  -- what the body of a quantifier over memories says of one of the context is typed
  said_of_memory_typed : (i : ℕ) → IsNamedMemory here (side.Memory i) → (ls : List TypedName) (b : Term) → IsForm (within here memory (Some ls)) b →
      reads_other_locals false q (side.Memory i) (at_memory b i) ≡ false → IsForm here (at_memory b i)
  said_of_memory_typed i m ls b w e =
      subst
      (λ d. IsNamedMemory d (side.Memory i) → ((x : Name) (u : Ty) → is_local false q (side.Memory i) x u ≡ true → local_in (get_or d.named i None) x ≡ Some u) → IsForm (within d memory (Some ls)) b → IsForm d (at_memory b i))
      (sym here_small) (λ n stands body. memory_typed base us ns i n.frame n.side false q ls (λ x u w. stands x u) b body e) m (local_stands i (context_of (declared ds)) q t) w

  memory_said : (f g b : Term) (a : Node) → IsForm here f → (out-Term f).head ≡ head.AllMemory → (out-Term f).args ≡ b ∷ [] → said_of ds q head.AllMemory (b ∷ []) a ≡ given g → Said f g
  memory_said f g b a w eh et k =
      let r = (out-Term f).ty in
      let whole : f ≡ node head.AllMemory (b ∷ []) r = each_is_node f ∙ (λ i. node (eh i) (et i) r) in
      let v = subst (IsForm here) whole w in
      let p = parts_typed here head.AllMemory (b ∷ []) r v.typed in
      let y = given_bind (memory_of ds q (head_of a) (parts_of a) (place_of a)) (λ s. said_of_memory q b s (place_of a)) g k in
      let m = memory_named (head_of a) (parts_of a) (place_of a) y.0 y.1 in
      let z = if_unbuilt (reads_other_locals false q y.0 (about_named b y.0)) (place_of a) (about_named b y.0) g y.2 in
      let same : at_memory b m.number ≡ g = ap (about_named b) (sym m.is) ∙ z.1 in
      let known = subst (λ s. reads_other_locals false q s (about_named b s) ≡ false) m.is z.0 in
      let place : IsNamedMemory here (side.Memory m.number) = subst (IsNamedMemory here) m.is m.named in
      let body : IsForm (within here memory (Some p.2)) b = record { typed = p.3; truth = p.0.0 } in
      let form : IsForm here (at_memory b m.number) = said_of_memory_typed m.number place p.2 b body known in
      record {
        argument = of_memory m.number;
        says = λ es h x. (b, r, whole, form, subst (λ t. Says here t es h) (sym same) x);
        form = subst (IsForm here) same form;
      }

  said_is : (f g : Term) (a : Node) → IsForm here f → (h : Head) (ts : List Term) → (out-Term f).head ≡ h → (out-Term f).args ≡ ts → said_of ds q h ts a ≡ given g → Said f g
  said_is f g a w (head.All u) (b ∷ []) eh et k = value_said f g b u a w eh et k
  said_is f g a w (head.All u) [] eh et k = cc
  said_is f g a w (head.All u) (b ∷ c ∷ ts) eh et k = cc
  said_is f g a w head.AllMemory (b ∷ []) eh et k = memory_said f g b a w eh et k
  said_is f g a w head.AllMemory [] eh et k = cc
  said_is f g a w head.AllMemory (b ∷ c ∷ ts) eh et k = cc
  said_is f g a w h ts eh et k = cc

  said_of_each : (es : List Node) (f g : Term) → IsForm here f → said_of_all ds q f es ≡ given g → (xs : List UsedArgument) × Says here f xs g × IsForm here g
  unfolding said_of_all
  said_of_each [] f g w h = let e = given_is f g h in ([], e, subst (IsForm here) e w)
  said_of_each (a ∷ es) f g w h =
      let y = given_bind (said_of ds q (out-Term f).head (out-Term f).args a) (λ z. said_of_all ds q z es) g h in
      let s = said_is f y.0 a w (out-Term f).head (out-Term f).args refl refl y.1 in
      let r = said_of_each es y.0 g s.form y.2 in
      (s.argument ∷ r.0, s.says r.0 g r.1, r.2)

  -- a statement with leading `forall`s for its binders is typed where it is used
  generalized_typed : (l : Sequent) (o : IsOfStates (declared ds) l) → q.modules ≡ [] → (ks : List Binder) → AreBindersOf ks (map (λ v. v.ty) l.logical) o.frames → IsForm here (generalized ks l)
  generalized_typed l o alone ks w =
      let xs = map (λ (v : TypedName). v.ty) l.logical in
      let stated : IsForm (small base xs (framed o.frames)) l.conclusion =
      subst (λ d. IsForm d l.conclusion)
      (sequent_outermost (declared ds) l o.frames ∙ ap (λ bs. small (with_modules (context_of (declared ds)) bs) xs (framed o.frames)) (o.modules ∙ sym alone)) o.conclusion in
      subst (λ d. IsForm d (generalized ks l)) (sym here_small)
      (wider base [] [] us ns (record { variables = λ i t e. none_some t e; memories = λ i m. absurd (omega (arith, m)) }) (generalized ks l)
      (binders_typed base ks [] xs [] o.frames w o.values l.conclusion stated))

  -- a hypothesis of the goal
  abbrev Known : List Hyp → Term → Type 0
  Known hs f = IsAmong hs f × IsForm here f

  found : (hs : List Hyp) → AreHypotheses here hs → (x : List ℕ) (f : Term) → hypothesis_named hs x ≡ Some f → Known hs f
  found [] w x f e = cc
  found (h ∷ hs) w x f e = by_name (bytes_eq x h.name) (found hs w.1 x f) e
    where
      some_is : (a b : Term) → Some a ≡ Some b → a ≡ b
      some_is a b e = cc

      by_name : (b : Bool) → (hypothesis_named hs x ≡ Some f → Known hs f) → (if b then Some h.form else hypothesis_named hs x) ≡ Some f → Known (h ∷ hs) f
      by_name true g e = (inl (some_is h.form f e), subst (IsForm here) (some_is h.form f e) w.0)
      by_name false g e = let k = g e in (inr k.0, k.1)

  -- Lemmas.

  all_finite : (vs : List TypedName) → HaveFiniteTypes vs → AreFinite (map (λ v. v.ty) vs)
  all_finite [] h = tt
  all_finite (v ∷ vs) h = (h.0, all_finite vs h.1)

  -- a statement about procedures that binds no modules is about values and memories
  abbrev about_states : (l : Sequent) → l.modules ≡ [] → IsFact ds l → IsOfStates (declared ds) l
  about_states l plain w =
      let c = of_sequent (context_of (declared ds)) l w.typed.frames in
      let formula = conclusion_formula c l.conclusion w.typed.conclusion w.bodies in
      let form : IsForm c l.conclusion = formula_form c l.conclusion formula w.front in
      record {
        modules = plain;
        hyps = w.hyps;
        values = all_finite l.logical w.typed.logical;
        frames = w.typed.frames;
        conclusion = form;
      }

  -- leading `forall`s for binders are those of the lemma's meaning
  binders_are : (ks : List Binder) (vs : List TypedName) (ms : List (List ℕ)) (fs : List (List TypedName)) → length fs ≡ length ms → (i m : ℕ) (f g : Term) → about_all ks vs ms i m f ≡ Some g →
      AreBindersOf ks (map (λ v. v.ty) vs) fs × (for_binders ks (map (λ v. v.ty) vs) i m f ≡ g)
  unfolding about_all
  binders_are [] [] [] [] n i m f g e = (tt, same_some f g e)
  binders_are [] [] [] (l ∷ fs) n i m f g e = absurd (omega (arith, n))
  binders_are [] [] (x ∷ ms) fs n i m f g e = cc
  binders_are [] (v ∷ vs) ms fs n i m f g e = cc
  binders_are (Module ∷ ks) vs ms fs n i m f g e = cc
  binders_are (Value ∷ ks) [] ms fs n i m f g e = cc
  binders_are (Value ∷ ks) (v ∷ vs) ms fs n i m f g e =
      let k = mapped (about_value i v.ty) (about_all ks vs ms (i + 1) m f) g e in
      let r = binders_are ks vs ms fs n (i + 1) m f k.0 k.1 in (r.0, ap (for_each_value i v.ty) r.1 ∙ k.2)
  binders_are (Memory ∷ ks) vs [] fs n i m f g e = cc
  binders_are (Memory ∷ ks) vs (x ∷ ms) [] n i m f g e = absurd (omega (arith, n))
  binders_are (Memory ∷ ks) vs (x ∷ ms) (l ∷ fs) n i m f g e =
      let k = mapped (about_memory m) (about_all ks vs ms i (m + 1) f) g e in
      let r = binders_are ks vs ms fs (omega (arith, n)) i (m + 1) f k.0 k.1 in (r.0, ap (for_each_memory m) r.1 ∙ k.2)

  -- a form that is known, and typed
  abbrev IsUsed : Term → Type 0
  IsUsed f = IsForm here f × IsKnown (declared ds) q here f

  -- what a statement without modules says of arguments, at a goal without modules
  statement_said : q.modules ≡ [] → (l : Sequent) → l.modules ≡ [] → IsFact ds l → (ks : List Binder) (g : Term) → about_all ks l.logical l.memories 0 0 l.conclusion ≡ Some g →
      (es : List Node) (f : Term) → said_of_all ds q g es ≡ given f → IsUsed f
  statement_said alone l plain w ks g a es f e =
      let stated = about_states l plain w in
      let all = binders_are ks l.logical l.memories w.typed.frames w.typed.memories 0 0 l.conclusion g a in
      let form = generalized_typed l stated alone ks all.0 in
      let s = said_of_each es (generalized ks l) f form (ap (λ z. said_of_all ds q z es) all.1 ∙ e) in
      (s.2, inr (record { alone = alone; lemma = l; holds = w.holds; stated = stated; binders = ks; all = all.0; arguments = s.0; says = s.1 }))

  -- the module that an argument is, is known
  module_known : (a : Node) (k : GivenModule) → module_given ds q a ≡ given k.0 → interface_at ds None k.0.0 ≡ Some k.0.1
  module_known a k e = expression_known (ambient ds q) [] (inside (head_of a) (parts_of a) a) k.0 e

  modules_known : (ks : List Binder) (f : Term) (es : List Node) (ms : List GivenModule) → modules_given ds q ks f es ≡ given ms → AreModulesOf ds ms
  unfolding modules_given
  modules_known ks f [] ms e = subst (AreModulesOf ds) (given_is [] ms e) tt
  modules_known [] f (a ∷ es) ms e =
      let y = given_bind (said_of ds q (out-Term f).head (out-Term f).args a) (λ g. modules_given ds q [] g es) ms e in
      modules_known [] y.0 es ms y.2
  modules_known (Module ∷ ks) f (a ∷ es) ms e =
      let y = given_bind (module_given ds q a) (λ m. modules_given ds q ks f es >>= λ ns. given (with_given a m ns)) ms e in
      let z = given_bind (modules_given ds q ks f es) (λ ns. given (with_given a y.0 ns)) ms y.2 in
      subst (AreModulesOf ds) (given_is (with_given a y.0 z.0) ms z.2) (module_known a (y.0, place_of a) y.1, modules_known ks f es z.0 z.1)
  modules_known (Value ∷ ks) f (a ∷ es) ms e =
      let y = given_bind (said_of ds q (out-Term f).head (out-Term f).args a) (λ g. modules_given ds q ks g es) ms e in
      modules_known ks y.0 es ms y.2
  modules_known (Memory ∷ ks) f (a ∷ es) ms e =
      let y = given_bind (said_of ds q (out-Term f).head (out-Term f).args a) (λ g. modules_given ds q ks g es) ms e in
      modules_known ks y.0 es ms y.2

  module _ (lemmas : AreStated ds) (alone : q.modules ≡ []) where
    module _ (x : List ℕ) (l : Sequent) (there : lemma_of ds x ≡ Some l) (ks : List Binder) (es : List Node) (p : Place) (f : Term) where
      plainly : l.modules ≡ [] → (o : Option Term) → about_statement ks l ≡ o → option_map_or (said_on ds q ks es p) o (not_built p) ≡ given f → IsUsed f
      plainly plain None a e = cc
      plainly plain (Some g) a e =
          let k = if_refused (nat_lt (length es) (length ks)) Argument p _ f e in
          statement_said alone l plain (lemmas.plain x l there plain) ks g a es f k.1

      -- what is said of the modules that are given
      of_instance : (r : Sequent) → r.modules ≡ [] → IsFact ds r → (o : Option Term) → about_statement (other_binders ks) r ≡ o →
          option_map_or (λ h. said_of_all ds q h (other_arguments ks es)) o (not_built p) ≡ given f → IsUsed f
      of_instance r plain w None a e = cc
      of_instance r plain w (Some h) a e = statement_said alone r plain w (other_binders ks) h a (other_arguments ks es) f e

      with_bound : (o : Option Term) → option_map_or (said_about ds q ks l es p) o (not_built p) ≡ given f → IsUsed f
      with_bound None e = cc
      with_bound (Some g) e =
          let k = if_refused (nat_lt (length es) (length ks)) Argument p _ f e in
          let y = given_bind (modules_given ds q ks g es) (said_of_modules ds q ks l es p) f k.1 in
          let z = given_bind (instance_of ds l y.0 p) (λ r. option_map_or (λ h. said_of_all ds q h (other_arguments ks es)) (about_statement (other_binders ks) r) (not_built p)) f y.2 in
          let w = lemmas.instances x l there y.0 (modules_known ks g es y.0 y.1) p z.0 z.1 in
          of_instance z.0 w.0 w.1 (about_statement (other_binders ks) z.0) refl z.2

      by_bound : (bs : List Bind) → l.modules ≡ bs → by_modules bs (said_plainly ds q ks l es p) (said_with_modules ds q ks l es p) ≡ given f → IsUsed f
      by_bound [] plain e = plainly plain (about_statement ks l) refl e
      by_bound (b ∷ bs) plain e = with_bound (about_statement (other_binders ks) l) e

      of_lemma : said_by ds q ks l es p ≡ given f → IsUsed f
      of_lemma e = by_bound l.modules refl e

    of_name : (x : List ℕ) (es : List Node) (p : Place) (f : Term) → used_named ds q x es p ≡ given f → IsUsed f
    unfolding used_named
    of_name x es p f e = by_hypothesis (hypothesis_named q.hyps x) refl e
      where
        by_lemma : (b : Bool) (o : Option Sequent) → lemma_of ds x ≡ o →
            option_map_or (λ l. said_by ds q (binders_of ds x) l es p) (if b then None else o) (refused (no_such ds q x) p) ≡ given f → IsUsed f
        by_lemma true o i e = cc
        by_lemma false None i e = cc
        by_lemma false (Some l) i e = of_lemma x l i (binders_of ds x) es p f e

        by_hypothesis : (o : Option Term) → hypothesis_named q.hyps x ≡ o →
            option_map_or (λ f. said_of_all ds q f es) o (option_map_or (λ l. said_by ds q (binders_of ds x) l es p) (lemma_named ds q x) (refused (no_such ds q x) p)) ≡ given f → IsUsed f
        by_hypothesis (Some g) i e =
            let k = found q.hyps t.hyps x g i in
            let s = said_of_each es g f k.1 e in
            (s.2, inl (record { known = g; among = k.0; form = k.1; arguments = s.0; says = s.1 }))
        by_hypothesis None i e = by_lemma (is_taken q x) (lemma_of ds x) refl e

    used_typed_at : (h : Kind) (ps : List Node) (n : Node) (f : Term) → used_at ds q h ps n ≡ given f → IsUsed f
    used_typed_at text.Apply (m ∷ es) n f e = of_name (name_of (head_of m) (text_of m) (parts_of m)) es (place_of m) f e
    used_typed_at _ ps n f e = of_name (name_of (head_of n) (text_of n) (parts_of n)) [] (place_of n) f e

    pub used_typed : (n : Node) (f : Term) → used ds q n ≡ given f → IsUsed f
    used_typed n f e = used_typed_at (head_of n) (parts_of n) n f e

    -- a hypothesis says itself
    pub hypothesis_typed : (x : List ℕ) (p : Place) (f : Term) → hypothesis ds q x p ≡ given f → IsUsed f
    hypothesis_typed x p f e = by_option (hypothesis_named q.hyps x) refl e
      where
        by_option : (o : Option Term) → hypothesis_named q.hyps x ≡ o → given_or o (no_such ds q x) p ≡ given f → IsUsed f
        by_option None i e = cc
        by_option (Some g) i e =
            let k = found q.hyps t.hyps x f (i ∙ ap Some (given_is g f e)) in
            (k.1, inl (record { known = f; among = k.0; form = k.1; arguments = []; says = refl }))

    hinted_typed_at : (h : Kind) (ps : List Node) (n : Node) (f : Term) → hinted_at ds q h ps n ≡ given f → IsUsed f
    hinted_typed_at text.LemmaHint (l ∷ []) n f e = used_typed l f e
    hinted_typed_at _ ps n f e = hypothesis_typed (text_of n) (place_of n) f e

    pub all_hinted_typed : (ns : List Node) (fs : List Term) → all_hinted ds q ns ≡ given fs → AllByRecursion IsUsed fs
    all_hinted_typed [] fs e = subst (AllByRecursion IsUsed) (given_is [] fs e) tt
    all_hinted_typed (n ∷ ns) fs e =
        let a = given_bind (hinted ds q n) (λ f. all_hinted ds q ns >>= λ gs. given (f ∷ gs)) fs e in
        let b = given_bind (all_hinted ds q ns) (λ gs. given (a.0 ∷ gs)) fs a.2 in
        subst (AllByRecursion IsUsed) (given_is (a.0 ∷ b.0) fs b.2) (hinted_typed_at (head_of n) (parts_of n) n a.0 a.1, all_hinted_typed ns b.0 b.1)
