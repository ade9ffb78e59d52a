-- The forms that steps on conclusions bring to goals are typed.
use Rattle.std.proofs.Common.{◌≡◌, Bool, true, false, if◌then◌else◌, ℕ, ◌<◌, List, [], ◌∷◌, map, Some, refl, ap, sym, ◌∙◌, subst}
use Rattle.std.proofs.lemmas.Bool.{false≢true}
use Rattle.std.proofs.lemmas.List.{length-map}
use Rattle.std.specs.Prelude.{codes, bytes_eq}
use Rattle.std.specs.List.{AllByRecursion}
use Rattle.gb_core.specs.declared.place.Place.{Place}
use Rattle.gb_core.specs.declared.ty.Ty.{Ty}
use Rattle.gb_core.specs.declared.ty.Ty.TheVariants as ty
use Rattle.gb_terms.specs.declared.term.Term.{Term, Term', Row_of-Term, end_of-Term, more_of-Term, end_of-Head, more_of-Head, out-Term}
use Rattle.gb_terms.specs.declared.term.Head.{Head}
use Rattle.gb_terms.specs.declared.op.Side.{Side}
use Rattle.gb_terms.specs.declared.op.Side.TheVariants as side
use Rattle.gb_terms.specs.declared.term.Head.TheVariants as head
use Rattle.gb_terms.specs.Make.{node}
use Rattle.gb_goal.specs.Scope as scope
use Rattle.gb_goal.specs.declared.sequent.Sequent.{Sequent}
use Rattle.gb_steps.specs.declared.step.Acts.{Acts}
use Rattle.gb_steps.specs.declared.step.Acts.TheVariants as on
use Rattle.gb_steps.specs.declared.step.AmbientRule.{AmbientRule}
use Rattle.gb_steps.specs.declared.step.AmbientRule.TheVariants as conclusion
use Rattle.gb_steps.specs.declared.step.RelationalRule.{RelationalRule}
use Rattle.gb_steps.specs.declared.step.RelationalRule.TheVariants as relational_rule
use Rattle.gb_steps.specs.declared.step.Rule.{Rule}
use Rattle.gb_steps.specs.declared.step.Rule.TheVariants as rule
use Rattle.gb_steps.specs.declared.step.BodyRule.TheVariants as on_bodies
use Rattle.gb_steps.specs.declared.step.Multiple.{Multiple}
use Rattle.gb_steps.specs.declared.step.Step.{Step}
use Rattle.gb_goal.specs.Answers.{Answer, ◌>>=◌, not_built}
use Rattle.gb_steps.specs.declared.step.RewriteRule.TheVariants as rewrite_rule
use Rattle.gb_steps.specs.Told.{told}
use Rattle.gb_steps.specs.declared.step.UseRule.{UseRule}
use Rattle.gb_steps.specs.declared.step.UseRule.TheVariants as use_rule
use Rattle.gb_goal.specs.Goal.{goal_of, judges_bodies}
use Rattle.gb_goal.specs.Answers.Answer.{given}
use Rattle.gb_script.specs.declared.head.Head.{Head as Kind}
use Rattle.gb_script.specs.declared.head.Head.TheVariants as text
use Rattle.gb_script.specs.declared.tree.Node.{Node}
use Rattle.gb_script.specs.Tree.{head_of, text_of, parts_of, place_of}
use Rattle.gb_meaning.specs.Declared.{declared}
use Rattle.gb_meaning.specs.Truth.{has_module}
use Rattle.gb_typing.specs.Context.{Context, erased, within}
use Rattle.gb_laws.proofs.Trees.{out_is}
use Rattle.gb_meaning.specs.Written.{type_of}
use Rattle.gb_laws.specs.Finite.{IsFinite}
use Rattle.gb_laws.specs.Typing.{types_of, IsHead}
use Rattle.gb_typing.specs.Typing.{IsTyped, IsForm}
use Rattle.gb_laws.specs.Typing.Binder.{memory}
use Rattle.gb_typing.specs.Sequents.{IsConclusion, of_sequent, with_modules, IsTypedSequent}
use Rattle.gb_typing.proofs.Lifted.{sequent_outermost}
use Rattle.gb_amb.specs.Witness.{at_memory}
use Rattle.gb_typing.specs.Scopes.{context_of, IsTypedScope}
use Rattle.gb_names.specs.Environment.{ambient}
use Rattle.gb_elab.specs.Forms.{elaborated}
use Rattle.gb_elab_mod.specs.OnPrograms.{acts, coupling_rule, couplings, drawing_rule, cut_of, functions_of, conseq_rule, case_of_bodies, of_bodies_rule, plain_rule, seq_rule, both_rule, chance_rule, judges_chance}
use Rattle.gb_elab_mod.specs.Steps.{asked_of, conclusion_rule, formed, case_of_conclusion, sided_case_rule, typed_rule, step_given, asks_for_locals, memory_witness, value_witness, witness_rule}
use Rattle.gb_elab_mod.specs.Multiples.{hypothesis_at, multiples, position}
use Rattle.gb_elab_mod.specs.Uses.{all_hinted, defined_operator, hypothesis, used, is_memory, memory_of}
use Rattle.gb_elab_mod.specs.Taken.{new_name}
use Rattle.gb_elab_prog.specs.Unbuilt.{absent}
use Rattle.gb_elab_laws.specs.Fitting.{IsFormTypeIf, IsWanted, of_each_module}
use Rattle.gb_elab_laws.proofs.Betweens.{of_transitive}
use Rattle.gb_elab_laws.proofs.Contracts.{of_call}
use Rattle.gb_elab_laws.proofs.Keeping.{of_entering}
use Rattle.gb_elab_laws.proofs.Conditions.{of_by}
use Rattle.gb_elab_laws.proofs.Transformings.{of_inlining, of_passing, of_placed}
use Rattle.gb_elab_laws.proofs.Turning.{of_while}
use Rattle.gb_elab_laws.proofs.Shapes.{value_form}
use Rattle.gb_elab_laws.proofs.EventLaws.{of_event_law, of_splitting}
use Rattle.gb_elab_laws.proofs.Given.{given_bind, given_is, if_unbuilt, not_given}
use Rattle.gb_elab_laws.proofs.Fits.{goal_fits}
use Rattle.gb_elab_laws.proofs.Forms.{elaborated_typed}
use Rattle.gb_amb.specs.Steps.{IsMemoryWitness, IsTypedStep, IsWitness}
use Rattle.gb_amb.proofs.Cases.{conclusion_formula}
use Rattle.gb_meaning.proofs.Nodes.{each_is_node}
use Rattle.gb_typing.proofs.Conclusions.{formula_form}
use Rattle.gb_typing.proofs.Made.{parts_typed}
use mathlib.Core.Former.{Count}
use Rattle.gb_elab_laws.proofs.Remembered.{IsNamedMemory}
use Rattle.gb_elab_laws.proofs.AboutNamed.{memory_typed as about_memory}
use Rattle.gb_elab_laws.proofs.Further.{wider_typed, body_grows, further_stands, there, within_range}
use Rattle.gb_elab_laws.proofs.Used.{IsNamed, all_hinted_typed, hypothesis_typed, memory_named, used_typed}
use Rattle.gb_amb.specs.Lemmas.{IsKnown}
use Rattle.gb_elab_laws.specs.Procedures.{AreStated}
use Rattle.gb_amb.specs.Uses.{used_by}
use Rattle.gb_amb.specs.Uses as uses

-- no module is quantified in front of what is said of some memory
memory_front : (f : Term) → (out-Term f).head ≡ head.SomeMemory → has_module f ≡ false
memory_front (Term' tt (more_of-Head h end_of-Head) n ts ty) e =
    subst (λ k. has_module (Term' tt (more_of-Head k end_of-Head) n ts ty) ≡ false) (sym (sym (ap (λ x. x.head) (out_is h n ts ty)) ∙ e)) refl

module _ (ds : scope.Declarations) (scoped : IsTypedScope (declared ds)) (q : Sequent) (t : IsTypedSequent (context_of (declared ds)) q) where
  abbrev here : Context
  here = of_sequent (context_of (declared ds)) q t.frames

  form_typed : (f : Node) (u : Term) → formed ds q f ≡ given u → IsForm here u
  form_typed f u h =
      let g = elaborated_typed f here (ambient ds q) [] (goal_fits ds scoped q t) (Some ty.Bool) tt u h in
      record { typed = g.typed; truth = g.wanted }

  -- typed forms that are known
  abbrev AreKnown : List Term → Type 0
  AreKnown fs = AllByRecursion (λ f. IsForm here f × IsKnown (declared ds) q here f) fs

  -- the step is typed, where memories of the goal may have further locals
  abbrev IsTypedAnew : AmbientRule → Type 0
  IsTypedAnew r = (u : IsTypedSequent (context_of (declared ds)) q) × IsTypedStep (of_sequent (context_of (declared ds)) q u.frames) q.conclusion r

  -- the forms that a rule brings are typed
  abbrev HasForms : Rule → Type 0
  HasForms (rule.Ambient r) = IsTypedAnew r
  HasForms (rule.Use r) = AreStated ds → q.modules ≡ [] → uses.IsTypedStep (declared ds) q here r
  HasForms (rule.Smt fs) = AreStated ds → q.modules ≡ [] → AreKnown fs
  HasForms (rule.Rewrite r) = AreStated ds → q.modules ≡ [] → AreKnown (told (rule.Rewrite r))
  HasForms (rule.CallKnown a f) = AreStated ds → q.modules ≡ [] → AreKnown (f ∷ [])
  HasForms _ = Unit {0}

  -- a step that brings this
  brings : (a : AmbientRule) → IsTypedStep here q.conclusion a → (k : Rule) → rule.Ambient a ≡ k → HasForms k
  brings a w k e = subst HasForms e (t, w)

  -- a step that uses a hypothesis
  by_use : (n : Node) (f : Term) → used ds q n ≡ given f → (r : UseRule) → used_by r ≡ f → (k : Rule) → rule.Use r ≡ k → HasForms k
  by_use n f u r is k e =
      subst HasForms e
      (λ lemmas alone. (let w = used_typed ds scoped q t lemmas alone n f u in record { form = subst (IsForm here) (sym is) w.0; known = subst (IsKnown (declared ds) q here) (sym is) w.1 }))

  abbrev is_ambient : Rule → Bool
  is_ambient (rule.Ambient r) = true
  is_ambient (rule.Use r) = true
  is_ambient (rule.Smt fs) = true
  is_ambient (rule.Rewrite r) = true
  is_ambient (rule.CallKnown a f) = true
  is_ambient _ = false

  without_forms : (j : Rule) → is_ambient j ≡ false → HasForms j
  without_forms (rule.Ambient r) n = absurd (false≢true (sym n))
  without_forms (rule.Use r) n = absurd (false≢true (sym n))
  without_forms (rule.OnBodies r) n = tt
  without_forms (rule.Relational r) n = tt
  without_forms (rule.Smt fs) n = absurd (false≢true (sym n))
  without_forms (rule.Rewrite r) n = absurd (false≢true (sym n))
  without_forms (rule.Linear ms) n = tt
  without_forms (rule.Chance r) n = tt
  without_forms (rule.Probability r) n = tt
  without_forms (rule.Call s) n = tt
  without_forms (rule.Abstract r) n = tt
  without_forms (rule.CallKnown a f) n = absurd (false≢true (sym n))
  without_forms (rule.While i) n = tt
  without_forms (rule.Transform a t) n = tt

  other : (j k : Rule) → is_ambient j ≡ false → j ≡ k → HasForms k
  other j k n e = subst HasForms e (without_forms j n)

  -- whether the goal has a probability
  abbrev with_chance : Bool
  with_chance = judges_chance (out-Term q.conclusion).head

  no_ambient : (b : Bool) (fs : List Node) (us : List Term) → is_ambient (coupling_rule b fs us) ≡ false
  no_ambient true [] us = refl
  no_ambient false [] us = refl
  no_ambient true (f ∷ fs) [] = refl
  no_ambient false (f ∷ fs) [] = refl
  no_ambient true (f ∷ fs) (u ∷ us) = refl
  no_ambient false (f ∷ fs) (u ∷ us) = refl

  chance_no_ambient : (a : Acts) → is_ambient (chance_rule a) ≡ false
  chance_no_ambient on.All = refl
  chance_no_ambient on.Left = refl
  chance_no_ambient on.Right = refl

  both_no_ambient : (r : RelationalRule) (a : Acts) → is_ambient (both_rule r a) ≡ false
  both_no_ambient r on.All = refl
  both_no_ambient r on.Left = refl
  both_no_ambient r on.Right = refl

  of_name : (x : List ℕ) (a : Acts) (p : Place) (k : Rule) (b d e : Bool) →
      (if b then given (chance_rule a) else if d then given (both_rule relational_rule.Symmetry a) else if e then given (both_rule relational_rule.Sim a) else of_bodies_rule (plain_rule x a p)) ≡ given k → HasForms k
  of_name x a p k true d e h = other (chance_rule a) k (chance_no_ambient a) (given_is (chance_rule a) k h)
  of_name x a p k false true e h =
      other (both_rule relational_rule.Symmetry a) k (both_no_ambient relational_rule.Symmetry a) (given_is (both_rule relational_rule.Symmetry a) k h)
  of_name x a p k false false true h = other (both_rule relational_rule.Sim a) k (both_no_ambient relational_rule.Sim a) (given_is (both_rule relational_rule.Sim a) k h)
  of_name x a p k false false false h = let y = given_bind (plain_rule x a p) (λ z. given (rule.OnBodies z)) k h in other (rule.OnBodies y.0) k refl (given_is (rule.OnBodies y.0) k y.2)

  -- the first of these that is chosen, else none
  abbrev chosen_of : List (Bool × AmbientRule) → Place → Answer AmbientRule
  chosen_of [] p = not_built p
  chosen_of (x ∷ xs) p = if x.0 then given x.1 else chosen_of xs p

  -- rules that bring no form
  abbrev BringNothing : List (Bool × AmbientRule) → Type 0
  BringNothing [] = Unit {0}
  BringNothing (x ∷ xs) = IsTypedStep here q.conclusion x.1 × BringNothing xs

  chosen_typed : (xs : List (Bool × AmbientRule)) (p : Place) (a : AmbientRule) → BringNothing xs → chosen_of xs p ≡ given a → IsTypedStep here q.conclusion a
  chosen_typed [] p a w h = cc
  chosen_typed ((true, r) ∷ xs) p a w h = subst (IsTypedStep here q.conclusion) (given_is r a h) w.0
  chosen_typed ((false, r) ∷ xs) p a w h = chosen_typed xs p a w.1 h

  plain_typed : (x : List ℕ) (p : Place) (a : AmbientRule) → conclusion_rule x p ≡ given a → IsTypedStep here q.conclusion a
  plain_typed x p a h =
      chosen_typed
      ((bytes_eq x (codes "split"), conclusion.Split)
      ∷ (bytes_eq x (codes "left"), conclusion.Left)
      ∷ (bytes_eq x (codes "right"), conclusion.Right)
      ∷ (bytes_eq x (codes "assumption"), conclusion.Assumption)
      ∷ (bytes_eq x (codes "trivial"), conclusion.Trivial)
      ∷ (bytes_eq x (codes "//"), conclusion.Trivial)
      ∷ (bytes_eq x (codes "done"), conclusion.Done) ∷ [])
      p
      a
      (tt, (tt, (tt, (tt, (tt, (tt, (tt, tt)))))))
      h

  of_case : (f : Node) (k : Rule) (b : Bool) → (if b then of_bodies_rule (case_of_bodies ds q f (goal_of q.conclusion)) else case_of_conclusion ds q f) ≡ given k → HasForms k
  of_case f k true h =
      let y = given_bind (case_of_bodies ds q f (goal_of q.conclusion)) (λ z. given (rule.OnBodies z)) k h in other (rule.OnBodies y.0) k refl (given_is (rule.OnBodies y.0) k y.2)
  of_case f k false h =
      let z = given_bind (formed ds q f) (λ (t : Term). given (rule.Ambient (conclusion.Case t))) k h in
      brings (conclusion.Case z.0) (form_typed f z.0 z.1) k (given_is (rule.Ambient (conclusion.Case z.0)) k z.2)

  of_sides : (a : Acts) (f : Node) (k : Rule) → sided_case_rule ds q a f ≡ given k → HasForms k
  of_sides on.All f k h = of_case f k (judges_bodies (out-Term q.conclusion).head) h
  of_sides on.Left f k h = other (rule.OnBodies on_bodies.Unfit) k refl (given_is (rule.OnBodies on_bodies.Unfit) k h)
  of_sides on.Right f k h = other (rule.OnBodies on_bodies.Unfit) k refl (given_is (rule.OnBodies on_bodies.Unfit) k h)

  -- the type of what is said to exist is one of values
  quantified_finite : {n : Count} (u : Ty) (ts : Row_of-Term n) (r : Ty) → IsHead (erased here) (head.Some u) (types_of ts) r → IsFinite u
  quantified_finite u (more_of-Term a end_of-Term) r w = w.0
  quantified_finite u end_of-Term r w = absurd w
  quantified_finite u (more_of-Term a (more_of-Term b ts)) r w = absurd w

  asked_finite : (f : Term) → IsConclusion here f → IsFormTypeIf of_each_module (asked_of (out-Term f).head)
  asked_finite (Term' tt (more_of-Head (head.Some u) end_of-Head) n ts r) w =
      subst (λ h. IsFormTypeIf of_each_module (asked_of h)) (sym (ap (λ x. x.head) (out_is (head.Some u) n ts r))) (value_form u (quantified_finite u ts r w.typed.0))
  asked_finite (Term' tt (more_of-Head h end_of-Head) n ts r) w = subst (λ h. IsFormTypeIf of_each_module (asked_of h)) (sym (ap (λ x. x.head) (out_is h n ts r))) tt

  witness_typed : (h : Head) (e : Term) → IsTyped here e → IsWanted (asked_of h) (type_of e) → IsWitness here e h
  witness_typed (head.Some u) e w k = (w, k)
  witness_typed _ e w k = tt

  of_witness : (n : Node) (e : Term) → elaborated n (ambient ds q) [] (asked_of (out-Term q.conclusion).head) ≡ given e → IsTypedStep here q.conclusion (conclusion.Witness e)
  of_witness n e h =
      let w = asked_of (out-Term q.conclusion).head in
      let g = elaborated_typed n here (ambient ds q) [] (goal_fits ds scoped q t) w (asked_finite q.conclusion t.conclusion) e h in
      witness_typed (out-Term q.conclusion).head e g.typed g.wanted

  -- what is said to exist is said of a memory of the context
  memory_typed : (i : ℕ) → IsNamedMemory here (side.Memory i) → (h : Head) (ts : List Term) → (out-Term q.conclusion).head ≡ h → (out-Term q.conclusion).args ≡ ts →
      asks_for_locals q (side.Memory i) h ts ≡ false → (u : IsTypedSequent (context_of (declared ds)) q) × IsMemoryWitness (of_sequent (context_of (declared ds)) q u.frames) i h ts
  memory_typed i m head.SomeMemory (b ∷ []) eh et e =
      let r = (out-Term q.conclusion).ty in
      let whole : q.conclusion ≡ node head.SomeMemory (b ∷ []) r = each_is_node q.conclusion ∙ (λ k. node (eh k) (et k) r) in
      let form : IsForm here q.conclusion = formula_form here q.conclusion (conclusion_formula here q.conclusion t.conclusion (ap judges_bodies eh)) (memory_front q.conclusion eh) in
      let v = subst (IsForm here) whole form in
      let p = parts_typed here head.SomeMemory (b ∷ []) r v.typed in
      let c = context_of (declared ds) in
      let range = subst (λ n. i < n) (length-map t.frames (λ l. Some l)) m.side in
      let body : IsForm (within here memory (Some p.2)) b = record { typed = p.3; truth = p.0.0 } in
      let u = wider_typed c q t i range p.2 b r whole form body in (
        u,
        subst (λ d. IsForm (within d memory (Some p.2)) b → IsForm d (at_memory b i)) (sym (sequent_outermost (declared ds) q u.frames))
            (λ z. about_memory (with_modules c q.modules) (map (λ x. x.ty) q.logical) (map (λ l. Some l) u.frames) i (there c q t i range p.2 b r whole form body)
            (within_range c q t i range p.2 b r whole form body) true q p.2 (further_stands c q t i range p.2 b r whole form body) b z e)
            (body_grows c q t i range p.2 b r whole form body),
      )
  memory_typed i m h ts eh et e = (t, tt)

  of_memory : (s : Side) (p : Place) (a : AmbientRule) → IsNamed ds scoped q t s → memory_witness q s p ≡ given a → IsTypedAnew a
  of_memory s p a m k =
      let z = if_unbuilt (asks_for_locals q (side.Memory m.number) (out-Term q.conclusion).head (out-Term q.conclusion).args) p (conclusion.WitnessMemory m.number) a (subst (λ x. memory_witness q x p ≡ given a) m.is k) in
      subst IsTypedAnew z.1 (memory_typed m.number (subst (IsNamedMemory here) m.is m.named) _ _ refl refl z.0)

  witness_brings : (n : Node) (a : AmbientRule) (b : Bool) →
      (if b then (memory_of ds q (head_of n) (parts_of n) (place_of n) >>= λ s. memory_witness q s (place_of n)) else value_witness ds q n) ≡ given a → IsTypedAnew a
  witness_brings n a true k =
      let y = given_bind (memory_of ds q (head_of n) (parts_of n) (place_of n)) (λ s. memory_witness q s (place_of n)) a k in
      of_memory y.0 (place_of n) a (memory_named ds scoped q t (head_of n) (parts_of n) (place_of n) y.0 y.1) y.2
  witness_brings n a false k =
      let o = given_bind (elaborated n (ambient ds q) [] (asked_of (out-Term q.conclusion).head)) (λ (u : Term). given (conclusion.Witness u)) a k in
      subst IsTypedAnew (given_is (conclusion.Witness o.0) a o.2) (t, of_witness n o.0 o.1)

  of_drawing : (a : Acts) (fs : List Node) (k : Rule) → drawing_rule ds q a fs ≡ given k → HasForms k
  unfolding drawing_rule
  of_drawing on.All fs k h =
      let y = given_bind (couplings ds q fs) (λ (us : List Term). given (coupling_rule with_chance fs us)) k h in
      other (coupling_rule with_chance fs y.0) k (no_ambient with_chance fs y.0) (given_is (coupling_rule with_chance fs y.0) k y.2)
  of_drawing on.Left [] k h = other (rule.Relational (relational_rule.Drawn on.Left)) k refl (given_is (rule.Relational (relational_rule.Drawn on.Left)) k h)
  of_drawing on.Left (f ∷ fs) k h = other (rule.OnBodies on_bodies.Unfit) k refl (given_is (rule.OnBodies on_bodies.Unfit) k h)
  of_drawing on.Right [] k h = other (rule.Relational (relational_rule.Drawn on.Right)) k refl (given_is (rule.Relational (relational_rule.Drawn on.Right)) k h)
  of_drawing on.Right (f ∷ fs) k h = other (rule.OnBodies on_bodies.Unfit) k refl (given_is (rule.OnBodies on_bodies.Unfit) k h)

  rule_forms : (n : Kind) (x : List ℕ) (xs : List Node) (p : Place) (k : Rule) → typed_rule ds q n x xs p ≡ given k → HasForms k
  rule_forms text.PlainStep x [] p k h =
      let o = given_bind (conclusion_rule x p) (λ (a : AmbientRule). given (rule.Ambient a)) k h in brings o.0 (plain_typed x p o.0 o.1) k (given_is (rule.Ambient o.0) k o.2)
  rule_forms text.CallStep x (b ∷ n ∷ []) p k h = of_call ds q HasForms (λ s. tt) (λ a n f e lemmas alone. (used_typed ds scoped q t lemmas alone n f e, tt)) (λ n f e. tt) (λ m n u e. tt) tt (acts (parts_of b)) (head_of n) (parts_of n) p k h
  rule_forms text.WhileStep x (b ∷ f ∷ []) p k h = of_while ds q HasForms (λ v. tt) tt (acts (parts_of b)) f k h
  rule_forms text.Inline x (b ∷ n ∷ []) p k h = of_inlining HasForms (λ a t. tt) ds q (acts (parts_of b)) (parts_of n) p k h
  rule_forms text.ByStep x (m ∷ n ∷ []) p k h = of_by ds q m n HasForms (λ b e z g. tt) (λ b e z g. tt) tt x p k h
  rule_forms text.CaseStep x (b ∷ f ∷ []) p k h =
      of_sides (acts (parts_of b)) f k h
  rule_forms text.HaveForm x (n ∷ f ∷ []) p k h =
      let o = given_bind (new_name ds q (text_of n) (place_of n)) _ k h in
      let z = given_bind (formed ds q f) (λ (t : Term). given (rule.Ambient (conclusion.Have (text_of n) t))) k o.2 in
      brings (conclusion.Have (text_of n) z.0) (form_typed f z.0 z.1) k (given_is (rule.Ambient (conclusion.Have (text_of n) z.0)) k z.2)
  rule_forms text.Transitivity x (b ∷ n ∷ []) p k h = of_transitive ds q HasForms (λ u. tt) tt (acts (parts_of b)) (head_of n) (parts_of n) p k h
  rule_forms text.Rnd x (b ∷ fs) p k h = of_drawing (acts (parts_of b)) (functions_of fs) k h
  rule_forms text.Proc x (b ∷ i ∷ []) p k h = of_entering ds q HasForms (λ a. tt) (λ n f e. tt) tt (acts (parts_of b)) (parts_of i) p k h
  rule_forms text.BodyStep x (b ∷ []) p k h = of_name x (acts (parts_of b)) p k (bytes_eq x (codes "hoare")) (bytes_eq x (codes "symmetry")) (bytes_eq x (codes "sim")) h
  rule_forms text.Seq x (b ∷ n ∷ ns ∷ f ∷ bounds ∷ []) p k h =
      let o = given_bind (absent (parts_of bounds) p) (λ _. of_bodies_rule (seq_rule ds q (acts (parts_of b)) (cut_of n (parts_of ns)) f)) k h in
      let y = given_bind (seq_rule ds q (acts (parts_of b)) (cut_of n (parts_of ns)) f) (λ z. given (rule.OnBodies z)) k o.2 in
      other (rule.OnBodies y.0) k refl (given_is (rule.OnBodies y.0) k y.2)
  rule_forms text.Conseq x (b ∷ f ∷ g ∷ d ∷ []) p k h =
      let y = given_bind (conseq_rule ds q (acts (parts_of b)) (parts_of f) (parts_of g) (parts_of d)) (λ z. given (rule.OnBodies z)) k h in other (rule.OnBodies y.0) k refl (given_is (rule.OnBodies y.0) k y.2)
  rule_forms text.ApplyLemma x (n ∷ []) p k h =
      let z = given_bind (used ds q n) (λ (f : Term). given (rule.Use (use_rule.Apply f))) k h in
      by_use n z.0 z.1 (use_rule.Apply z.0) refl k (given_is (rule.Use (use_rule.Apply z.0)) k z.2)
  rule_forms text.HaveLemma x (m ∷ n ∷ []) p k h =
      let o = given_bind (new_name ds q (text_of m) (place_of m)) _ k h in
      let z = given_bind (used ds q n) (λ (f : Term). given (rule.Use (use_rule.Have (text_of m) f))) k o.2 in
      by_use n z.0 z.1 (use_rule.Have (text_of m) z.0) refl k (given_is (rule.Use (use_rule.Have (text_of m) z.0)) k z.2)
  rule_forms text.RewriteLemma x (n ∷ []) p k h =
      let z = given_bind (used ds q n) (λ (f : Term). given (rule.Rewrite (rewrite_rule.Forward f))) k h in
      subst HasForms (given_is (rule.Rewrite (rewrite_rule.Forward z.0)) k z.2) (λ lemmas alone. (used_typed ds scoped q t lemmas alone n z.0 z.1, tt))
  rule_forms text.RewriteBack x (n ∷ []) p k h =
      let z = given_bind (used ds q n) (λ (f : Term). given (rule.Rewrite (rewrite_rule.Back f))) k h in
      subst HasForms (given_is (rule.Rewrite (rewrite_rule.Back z.0)) k z.2) (λ lemmas alone. (used_typed ds scoped q t lemmas alone n z.0 z.1, tt))
  rule_forms text.RewriteHypothesis x (n ∷ []) p k h =
      let z = given_bind (hypothesis ds q (text_of n) (place_of n)) (λ (f : Term). given (rule.Rewrite (rewrite_rule.Forward f))) k h in
      subst HasForms (given_is (rule.Rewrite (rewrite_rule.Forward z.0)) k z.2) (λ lemmas alone. (hypothesis_typed ds scoped q t lemmas alone (text_of n) (place_of n) z.0 z.1, tt))
  rule_forms text.Subst x (n ∷ []) p k h =
      let z = given_bind (hypothesis_at ds q (text_of n) (place_of n)) (λ (i : ℕ). given (rule.Rewrite (rewrite_rule.Subst i))) k h in
      subst HasForms (given_is (rule.Rewrite (rewrite_rule.Subst z.0)) k z.2) (λ lemmas alone. tt)
  rule_forms text.RewriteOperator x (n ∷ []) p k h =
      let z = given_bind (defined_operator ds q n) (λ (y : List ℕ). given (rule.Rewrite (rewrite_rule.Unfold y))) k h in
      subst HasForms (given_is (rule.Rewrite (rewrite_rule.Unfold z.0)) k z.2) (λ lemmas alone. tt)
  rule_forms text.RewriteLaw x [] p k h = of_event_law HasForms (λ l n lemmas alone. tt) (λ r. tt) (λ r. tt) x p k h
  rule_forms text.RewriteSplit x (e ∷ []) p k h = of_splitting ds q e HasForms (λ f d u g lemmas alone. tt) tt k h
  rule_forms text.Smt x hints p k h =
      let z = given_bind (all_hinted ds q hints) (λ (fs : List Term). given (rule.Smt fs)) k h in
      subst HasForms (given_is (rule.Smt z.0) k z.2) (λ lemmas alone. all_hinted_typed ds scoped q t lemmas alone hints z.0 z.1)
  rule_forms text.Linear x hs p k h =
      let o = given_bind (multiples ds q hs) (λ (ms : List Multiple). given (rule.Linear ms)) k h in other (rule.Linear o.0) k refl (given_is (rule.Linear o.0) k o.2)
  rule_forms text.Name x [] p k h = brings (conclusion.Introduce x) tt k (given_is (rule.Ambient (conclusion.Introduce x)) k h)
  rule_forms text.Memory x (n ∷ []) p k h = brings (conclusion.IntroduceMemory (text_of n)) tt k (given_is (rule.Ambient (conclusion.IntroduceMemory (text_of n))) k h)
  rule_forms text.Drop x [] p k h = brings conclusion.Discard tt k (given_is (rule.Ambient conclusion.Discard) k h)
  rule_forms text.BothPatterns x ps p k h = brings conclusion.Unpack tt k (given_is (rule.Ambient conclusion.Unpack) k h)
  rule_forms text.EitherPattern x ps p k h = brings conclusion.Branch tt k (given_is (rule.Ambient conclusion.Branch) k h)
  rule_forms text.Witness x (n ∷ []) p k h =
      let o = given_bind (witness_rule ds q n) (λ (a : AmbientRule). given (rule.Ambient a)) k h in
      subst HasForms (given_is (rule.Ambient o.0) k o.2) (witness_brings n o.0 (is_memory (head_of n)) o.1)
  rule_forms text.TrivialPattern x [] p k h = brings conclusion.Trivial tt k (given_is (rule.Ambient conclusion.Trivial) k h)
  rule_forms text.SmtPattern x [] p k h = subst HasForms (given_is (rule.Smt []) k h) (λ lemmas alone. tt)
  rule_forms text.Swap x (b ∷ n ∷ d ∷ []) p k h = of_passing HasForms (λ a t. tt) (acts (parts_of b)) n (head_of d) (parts_of d) p k h
  rule_forms text.PositionStep x (b ∷ n ∷ []) p k h = of_placed HasForms (λ a t. tt) x (acts (parts_of b)) (position n) p k h
  rule_forms _ x _ p k h = absurd (not_given _ _ k h)

  step_forms : (n : Node) (s : Step) → step_given ds q n ≡ given s → HasForms s.rule
  unfolding step_given
  step_forms n s h =
      let x = given_bind (typed_rule ds q (head_of n) (text_of n) (parts_of n) (place_of n)) (λ (k : Rule). given (record { rule = k; place = place_of n })) s h in
      subst HasForms (ap (λ (z : Step). z.rule) (given_is (record { rule = x.0; place = place_of n }) s x.2)) (rule_forms (head_of n) (text_of n) (parts_of n) (place_of n) x.0 x.1)

  pub steps_typed : (n : Node) (s : Step) → step_given ds q n ≡ given s → (r : AmbientRule) → s.rule ≡ rule.Ambient r → IsTypedAnew r
  steps_typed n s h r e = subst HasForms e (step_forms n s h)

  pub uses_typed : AreStated ds → q.modules ≡ [] → (n : Node) (s : Step) → step_given ds q n ≡ given s → (r : UseRule) → s.rule ≡ rule.Use r → uses.IsTypedStep (declared ds) q here r
  uses_typed lemmas alone n s h r e = subst HasForms e (step_forms n s h) lemmas alone

  told_typed : (r : Rule) → HasForms r → AreStated ds → q.modules ≡ [] → AreKnown (told r)
  told_typed (rule.Smt fs) w lemmas alone = w lemmas alone
  told_typed (rule.Rewrite r) w lemmas alone = w lemmas alone
  told_typed (rule.CallKnown a f) w lemmas alone = w lemmas alone
  told_typed _ w lemmas alone = tt

  pub hints_typed : AreStated ds → q.modules ≡ [] → (n : Node) (s : Step) → step_given ds q n ≡ given s → AreKnown (told s.rule)
  hints_typed lemmas alone n s h = told_typed s.rule (step_forms n s h) lemmas alone
