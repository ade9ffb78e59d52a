-- What hypotheses and lemmas say of arguments.
use Rattle.std.proofs.Common.{◌≡◌, ℕ, ◌+◌, Bool, true, false, nat_lt, if◌then◌else◌, bytes_eq, List, [], ◌∷◌, length, Option, Some, None, refl, subst}
use Rattle.std.specs.List.{AllByRecursion}
use Rattle.std.specs.Option.{option_map, option_map_or}
use Rattle.gb_core.specs.declared.place.Place.{Place}
use Rattle.gb_core.specs.declared.refusal.Why.TheVariants.{Argument}
use Rattle.gb_core.specs.declared.ty.Ty.{Ty}
use Rattle.gb_core.specs.declared.ty.Ty.TheVariants as ty
use Rattle.gb_terms.specs.declared.decl.TypedName.{TypedName}
use Rattle.gb_terms.specs.declared.module.Bind.{Bind}
use Rattle.gb_terms.specs.declared.op.Read.TheVariants.{Logical}
use Rattle.gb_terms.specs.declared.op.Side.{Side}
use Rattle.gb_terms.specs.declared.op.Side.TheVariants as side
use Rattle.gb_terms.specs.declared.term.Head.{Head}
use Rattle.gb_terms.specs.declared.term.Head.TheVariants as head
use Rattle.gb_terms.specs.declared.term.Term.{Term, out-Term}
use Rattle.gb_terms.specs.Make.{node}
use Rattle.gb_walk.specs.declared.change.Change.TheVariants.{OfBound, ToTerm, ToSide}
use Rattle.gb_goal.specs.Answers.{◌>>=◌, not_built}
use Rattle.gb_goal.specs.Answers.Answer.{given, refused}
use Rattle.gb_goal.specs.Scope.{Declarations, as_lemma, binders_of, entry_of, lemma_of}
use Rattle.gb_goal.specs.declared.scope.Binder.{Binder}
use Rattle.gb_goal.specs.declared.scope.Binder.TheVariants.{Value, Memory, Module}
use Rattle.gb_goal.specs.declared.scope.Entry.{Entry}
use Rattle.gb_goal.specs.declared.scope.Entry.TheVariants as entry
use Rattle.gb_goal.specs.declared.sequent.Hyp.{Hyp}
use Rattle.gb_goal.specs.declared.sequent.Sequent.{Sequent}
use Rattle.gb_script.specs.declared.head.Head.{Head as Kind}
use Rattle.gb_script.specs.declared.head.Head.TheVariants as text
use Rattle.gb_script.specs.declared.tree.Node.{Node}
use Rattle.gb_script.specs.Tree.{head_of, text_of, parts_of, place_of}
use Rattle.gb_mods.specs.Meets.{Known}
use Rattle.gb_names.specs.Environment.{ambient}
use Rattle.gb_elab.specs.Forms.{elaborated}
use Rattle.gb_instances.specs.Instance.{GivenModule, instance_of, modules_of}
use Rattle.gb_elab_mod.specs.Multiples.{no_such}
use Rattle.gb_elab_mod.specs.OtherLocals.{reads_other_locals}
use Rattle.gb_elab_mod.specs.Taken.{is_taken}
use Rattle.gb_elab_mod.specs.Uses.{hypothesis_named, is_memory, value_of, memory_of, about_named, said_of, said_of_all, name_of, about_value, about_memory, about_all, about_statement, by_modules, inside, module_given, modules_given, other_arguments, other_binders, said_about, said_by, said_of_modules, said_on, said_plainly, said_with_modules, with_given, lemma_named, used_named, used_at, used, hypothesis}
use Rattle.gb_elab_laws.proofs.Given.{given_bind, given_is, if_none, if_refused, if_unbuilt, none_some, same_some, some_given, not_given}
use Rattle.gb_print_names.specs.declared.bound_names.Enumeration.{Enumeration}
use Rattle.gb_print.specs.Written.{IsWrittenModule}
use Rattle.gb_shown.specs.Named.{IsNamed, IsNamedType, IsNamedHead, IsNamedHyp, IsNamedVariable, IsNamedSequent}
use Rattle.gb_shown.proofs.Changed.{changed_named}
use Rattle.gb_shown.proofs.SpeltForms.{as_result}
use Rattle.gb_shown.proofs.SpeltTrees.{AllNamed, node_named, parts_named}
use Rattle.gb_shown.specs.Scopes.{IsNamedEntry, IsNamedScope, IsNamedStatement}
use Rattle.gb_shown.specs.Words.{IsReadTree}
use Rattle.gb_shown.proofs.FoundInScopes.{entry_named}
use Rattle.gb_shown.proofs.GivenNames.{instance_is_named}
use Rattle.gb_shown.proofs.Instances.{EachWritten}
use Rattle.gb_shown.proofs.NamedModules.{IsNamedKnown, expression_named}
use Rattle.gb_shown.proofs.OfForms.{OfForms}
use Rattle.gb_shown.proofs.Settings.{ambient_named}
use Rattle.gb_shown.proofs.Trees.{AreRead, parts_read}

none_built : {A : Type 0} (p : Place) (x : A) → not_built p ≡ given x → ⊥
none_built p x e = absurd (not_given _ _ x e)

module _ (forms : OfForms) (es : List Enumeration) (ds : Declarations) (k : IsNamedScope es ds) (q : Sequent) (n : IsNamedSequent es q) where
  abbrev Named : Term → Type 0
  Named f = IsNamed es f

  hyp_named : (hs : List Hyp) → AllByRecursion (IsNamedHyp es) hs → (x : List ℕ) (f : Term) → hypothesis_named hs x ≡ Some f → Named f
  hyp_named [] l x f e = none_some f e
  hyp_named (h ∷ hs) l x f e = step (bytes_eq x h.name) (hyp_named hs l.1 x f) e
    where
      step : (b : Bool) → (hypothesis_named hs x ≡ Some f → Named f) → (if b then Some h.form else hypothesis_named hs x) ≡ Some f → Named f
      step true behind i = subst Named (same_some h.form f i) l.0.1
      step false behind i = behind i

  -- an argument
  value_named : (u : Ty) → IsNamedType u → (a : Node) → IsReadTree a → (t : Term) → value_of ds q u a ≡ given t → Named t
  value_named u w a r t e =
      let b = if_refused (is_memory (head_of a)) Argument (place_of a) (elaborated a (ambient ds q) [] (Some u)) t e in
      forms.form es (ambient ds q) (ambient_named es ds k q n) [] tt (Some u) (as_result u w) a r t b.1

  about_named_named : (b : Term) (s : Side) → Named b → Named (about_named b s)
  about_named_named b s h = changed_named es b (ToSide (side.Bound 0) s ∷ []) (tt, tt) h

  said_named : (h : Head) (ts : List Term) (u : Ty) → IsNamedHead es h u → AllNamed es ts → (a : Node) → IsReadTree a → (g : Term) → said_of ds q h ts a ≡ given g → Named g
  said_named (head.All u) (b ∷ []) v x y a r g e =
      let t = given_bind (value_of ds q u a) _ g e in
      subst Named (given_is _ g t.2) (changed_named es b (OfBound 0 t.0 ∷ []) (value_named u x a r t.0 t.1, tt) y.0)
  said_named (head.All u) [] v x y a r g e = absurd (not_given _ _ g e)
  said_named (head.All u) (b ∷ c ∷ ts) v x y a r g e = absurd (not_given _ _ g e)
  said_named head.AllMemory (b ∷ []) v x y a r g e =
      let s = given_bind (memory_of ds q (head_of a) (parts_of a) (place_of a)) _ g e in
      subst Named (if_unbuilt (reads_other_locals false q s.0 (about_named b s.0)) (place_of a) (about_named b s.0) g s.2).1 (about_named_named b s.0 y.0)
  said_named head.AllMemory [] v x y a r g e = absurd (not_given _ _ g e)
  said_named head.AllMemory (b ∷ c ∷ ts) v x y a r g e = absurd (not_given _ _ g e)
  said_named _ ts v x y a r g e = absurd (not_given _ _ g e)

  all_said : (f : Term) → Named f → (xs : List Node) → AreRead xs → (g : Term) → said_of_all ds q f xs ≡ given g → Named g
  unfolding said_of_all
  all_said f h [] r g e = subst Named (given_is f g e) h
  all_said f h (a ∷ xs) r g e =
      let b = given_bind (said_of ds q (out-Term f).head (out-Term f).args a) _ g e in
      let p = parts_named es f h in
      all_said b.0 (said_named (out-Term f).head (out-Term f).args (out-Term f).ty p.0 p.2 a r.0 b.0 b.1) xs r.1 g b.2

  -- a statement with its binders
  value_bound : (i : ℕ) (u : Ty) (f : Term) → IsNamedType u → Named f → Named (about_value i u f)
  value_bound i u f w h =
      node_named es (head.All u) (_ ∷ []) ty.Bool w tt (changed_named es f (ToTerm (Logical i) (node (head.Bound 0) [] u) ∷ []) (node_named es (head.Bound 0) [] u w (as_result u w) tt, tt) h, tt)

  memory_bound : (m : ℕ) (f : Term) → Named f → Named (about_memory m f)
  memory_bound m f h = node_named es head.AllMemory (_ ∷ []) ty.Bool tt tt (changed_named es f (ToSide (side.Memory m) (side.Bound 0) ∷ []) (tt, tt) h, tt)

  mapped : (g : Term → Term) → ((f : Term) → Named f → Named (g f)) → (o : Option Term) → ((f : Term) → o ≡ Some f → Named f) → (f : Term) → option_map g o ≡ Some f → Named f
  mapped g h (Some x) l f e = subst Named (same_some (g x) f e) (h x (l x refl))
  mapped g h None l f e = none_some f e

  bound_named : (bs : List Binder) (vs : List TypedName) → AllByRecursion IsNamedVariable vs → (ms : List (List ℕ)) (i m : ℕ) (f : Term) → Named f → (g : Term) → about_all bs vs ms i m f ≡ Some g → Named g
  unfolding about_all
  bound_named [] [] w [] i m f h g e = subst Named (same_some f g e) h
  bound_named [] [] w (x ∷ ms) i m f h g e = none_some g e
  bound_named [] (v ∷ vs) w ms i m f h g e = none_some g e
  bound_named (Module ∷ bs) vs w ms i m f h g e = none_some g e
  bound_named (Value ∷ bs) (v ∷ vs) w ms i m f h g e =
      mapped (about_value i v.ty) (λ x y. value_bound i v.ty x w.0.1 y) (about_all bs vs ms (i + 1) m f) (λ x y. bound_named bs vs w.1 ms (i + 1) m f h x y) g e
  bound_named (Value ∷ bs) [] w ms i m f h g e = none_some g e
  bound_named (Memory ∷ bs) vs w (x ∷ ms) i m f h g e =
      mapped (about_memory m) (λ x y. memory_bound m x y) (about_all bs vs ms i (m + 1) f) (λ x y. bound_named bs vs w ms i (m + 1) f h x y) g e
  bound_named (Memory ∷ bs) vs w [] i m f h g e = none_some g e

  -- The modules that arguments give can be written.

  module_written : (a : Node) (m : Known) → module_given ds q a ≡ given m → IsWrittenModule [] m.0
  module_written a m e =
      let known : IsNamedKnown m = expression_named es (ambient ds q) (ambient_named es ds k q n) [] (inside (head_of a) (parts_of a) a) m e in known.written

  modules_written : (bs : List Binder) (f : Term) (xs : List Node) (ms : List GivenModule) → modules_given ds q bs f xs ≡ given ms → EachWritten (modules_of ms)
  unfolding modules_given
  modules_written bs f [] ms e = subst (λ (z : List GivenModule). EachWritten (modules_of z)) (given_is [] ms e) tt
  modules_written [] f (a ∷ xs) ms e =
      let y = given_bind (said_of ds q (out-Term f).head (out-Term f).args a) (λ g. modules_given ds q [] g xs) ms e in
      modules_written [] y.0 xs ms y.2
  modules_written (Module ∷ bs) f (a ∷ xs) ms e =
      let y = given_bind (module_given ds q a) (λ m. modules_given ds q bs f xs >>= λ l. given (with_given a m l)) ms e in
      let z = given_bind (modules_given ds q bs f xs) (λ l. given (with_given a y.0 l)) ms y.2 in
      subst (λ (l : List GivenModule). EachWritten (modules_of l)) (given_is (with_given a y.0 z.0) ms z.2) (module_written a y.0 y.1, modules_written bs f xs z.0 z.1)
  modules_written (Value ∷ bs) f (a ∷ xs) ms e =
      let y = given_bind (said_of ds q (out-Term f).head (out-Term f).args a) (λ g. modules_given ds q bs g xs) ms e in
      modules_written bs y.0 xs ms y.2
  modules_written (Memory ∷ bs) f (a ∷ xs) ms e =
      let y = given_bind (said_of ds q (out-Term f).head (out-Term f).args a) (λ g. modules_given ds q bs g xs) ms e in
      modules_written bs y.0 xs ms y.2

  others_read : (bs : List Binder) (xs : List Node) → AreRead xs → AreRead (other_arguments bs xs)
  others_read bs [] r = tt
  others_read [] (a ∷ xs) r = (r.0, others_read [] xs r.1)
  others_read (Module ∷ bs) (a ∷ xs) r = others_read bs xs r.1
  others_read (Value ∷ bs) (a ∷ xs) r = (r.0, others_read bs xs r.1)
  others_read (Memory ∷ bs) (a ∷ xs) r = (r.0, others_read bs xs r.1)

  -- what a statement without modules says of arguments
  statement_says : (bs : List Binder) (s : Sequent) → IsNamedStatement es s → (f : Term) → about_statement bs s ≡ Some f → (xs : List Node) → AreRead xs → (g : Term) → said_of_all ds q f xs ≡ given g → Named g
  statement_says bs s h f i xs r g e =
      let w = h.sequent in all_said f (bound_named bs s.logical w.variables s.memories 0 0 s.conclusion h.conclusion f i) xs r g e

  module _ (bs : List Binder) (s : Sequent) (h : IsNamedStatement es s) (xs : List Node) (r : AreRead xs) (p : Place) (g : Term) where
    plainly : (o : Option Term) → about_statement bs s ≡ o → option_map_or (said_on ds q bs xs p) o (not_built p) ≡ given g → Named g
    plainly None i e = absurd (none_built p g e)
    plainly (Some f) i e = let said = if_refused (nat_lt (length xs) (length bs)) Argument p (said_of_all ds q f xs) g e in statement_says bs s h f i xs r g said.1

    -- what is said of the modules that are given
    of_instance : (t : Sequent) → IsNamedStatement es t → (o : Option Term) → about_statement (other_binders bs) t ≡ o → option_map_or (λ f. said_of_all ds q f (other_arguments bs xs)) o (not_built p) ≡ given g → Named g
    of_instance t w None i e = absurd (none_built p g e)
    of_instance t w (Some f) i e = statement_says (other_binders bs) t w f i (other_arguments bs xs) (others_read bs xs r) g e

    with_bound : (o : Option Term) → option_map_or (said_about ds q bs s xs p) o (not_built p) ≡ given g → Named g
    with_bound None e = absurd (none_built p g e)
    with_bound (Some f) e =
        let said = if_refused (nat_lt (length xs) (length bs)) Argument p _ g e in
        let y = given_bind (modules_given ds q bs f xs) (said_of_modules ds q bs s xs p) g said.1 in
        let z = given_bind (instance_of ds s y.0 p) (λ t. option_map_or (λ f. said_of_all ds q f (other_arguments bs xs)) (about_statement (other_binders bs) t) (not_built p)) g y.2 in
        of_instance z.0 (instance_is_named es ds k s h y.0 (modules_written bs f xs y.0 y.1) p z.0 z.1) (about_statement (other_binders bs) z.0) refl z.2

    by_bound : (l : List Bind) → by_modules l (said_plainly ds q bs s xs p) (said_with_modules ds q bs s xs p) ≡ given g → Named g
    by_bound [] e = plainly (about_statement bs s) refl e
    by_bound (b ∷ l) e = with_bound (about_statement (other_binders bs) s) e

    -- what a lemma says
    lemma_says : said_by ds q bs s xs p ≡ given g → Named g
    lemma_says e = by_bound s.modules e

  as_lemma_named : (o : Option Entry) (s : Sequent) → ((e : Entry) → o ≡ Some e → IsNamedEntry es e) → as_lemma o ≡ Some s → IsNamedStatement es s
  as_lemma_named (Some (entry.Lemma t bs)) s l e = subst (IsNamedStatement es) (same_some t s e) (l (entry.Lemma t bs) refl)
  as_lemma_named None s l e = none_some s e
  as_lemma_named _ s l e = none_some s e

  lemma_there : (x : List ℕ) (s : Sequent) → lemma_named ds q x ≡ Some s → IsNamedStatement es s
  lemma_there x s e = as_lemma_named (entry_of ds x) s (λ y i. entry_named es ds k x y i) (if_none (is_taken q x) (lemma_of ds x) s e)

  named_used : (x : List ℕ) (xs : List Node) → AreRead xs → (p : Place) (g : Term) → used_named ds q x xs p ≡ given g → Named g
  unfolding used_named
  named_used x xs r p g e = by_hypothesis (hypothesis_named q.hyps x) refl e
    where
      by_lemma : (o : Option Sequent) → lemma_named ds q x ≡ o → option_map_or (λ s. said_by ds q (binders_of ds x) s xs p) o (refused (no_such ds q x) p) ≡ given g → Named g
      by_lemma (Some s) i h = lemma_says (binders_of ds x) s (lemma_there x s i) xs r p g h
      by_lemma None i h = absurd (cc)

      by_hypothesis : (o : Option Term) → hypothesis_named q.hyps x ≡ o → option_map_or (λ f. said_of_all ds q f xs) o (option_map_or (λ s. said_by ds q (binders_of ds x) s xs p) (lemma_named ds q x) (refused (no_such ds q x) p)) ≡ given g → Named g
      by_hypothesis (Some f) i h = all_said f (hyp_named q.hyps n.hyps x f i) xs r g h
      by_hypothesis None i h = by_lemma (lemma_named ds q x) refl h

  used_at_named : (h : Kind) (ps : List Node) → AreRead ps → (t : Node) (f : Term) → used_at ds q h ps t ≡ given f → Named f
  used_at_named text.Apply (m ∷ xs) r t f e = named_used (name_of (head_of m) (text_of m) (parts_of m)) xs r.1 (place_of m) f e
  used_at_named text.Apply [] r t f e = named_used (name_of (head_of t) (text_of t) (parts_of t)) [] tt (place_of t) f e
  used_at_named _ ps r t f e = named_used (name_of (head_of t) (text_of t) (parts_of t)) [] tt (place_of t) f e

  -- what is used
  pub used_is_named : (t : Node) → IsReadTree t → (f : Term) → used ds q t ≡ given f → Named f
  used_is_named t r f e = used_at_named (head_of t) (parts_of t) (parts_read t r) t f e

  pub hypothesis_is_named : (x : List ℕ) (p : Place) (f : Term) → hypothesis ds q x p ≡ given f → Named f
  hypothesis_is_named x p f e = hyp_named q.hyps n.hyps x f (some_given (hypothesis_named q.hyps x) _ p f e)
