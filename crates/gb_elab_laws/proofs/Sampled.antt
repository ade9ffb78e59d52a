-- The functions of `rnd` are typed over the locals of the bodies.
use Rattle.std.proofs.lemmas.Bool.{false≢true}
use Rattle.std.proofs.Common.{◌≡◌, Bool, true, false, if◌then◌else◌, bytes_eq, codes, ℕ, List, [], ◌∷◌, Option, Some, None, option_map, refl, ap, sym, ◌∙◌, subst}
use Rattle.std.specs.Option.{option_map_or, option_zip}
use Rattle.gb_core.specs.declared.place.Place.{Place}
use Rattle.gb_core.specs.declared.refusal.Why.TheVariants.{TypeMismatch}
use Rattle.gb_core.specs.declared.ty.Ty.{Ty}
use Rattle.gb_core.specs.SameTypes.{ty_eq}
use Rattle.gb_core.proofs.SameTypes.{ty_eq-Decides}
use Rattle.gb_terms.specs.declared.decl.TypedName.{TypedName}
use Rattle.gb_terms.specs.declared.op.Side.TheVariants as side
use Rattle.gb_terms.specs.declared.term.Cmd.{Cmd}
use Rattle.gb_terms.specs.declared.term.Instr.{Instr}
use Rattle.gb_terms.specs.declared.term.Subject.{Subject, out-Subject}
use Rattle.gb_terms.specs.declared.term.Term.{Term, out-Term}
use Rattle.gb_terms.specs.declared.term.Head.{Head}
use Rattle.gb_terms.specs.declared.term.Head.TheOpen as layer
use Rattle.gb_terms.specs.declared.term.Head.TheVariants as head
use Rattle.gb_goal.specs.Scope as scope
use Rattle.gb_goal.specs.Goal.{code_at, goal_at, goal_of, judges_bodies}
use Rattle.gb_goal.specs.Goal.Goal.{equiv}
use Rattle.gb_goal.specs.declared.sequent.Sequent.{Sequent}
use Rattle.gb_steps.specs.declared.step.Rule.{Rule}
use Rattle.gb_steps.specs.declared.step.Rule.TheVariants as rule
use Rattle.gb_steps.specs.declared.step.AmbientRule.{AmbientRule}
use Rattle.gb_steps.specs.declared.step.AmbientRule.TheVariants as conclusion
use Rattle.gb_steps.specs.declared.step.BodyRule.TheVariants as on_bodies
use Rattle.gb_steps.specs.declared.step.RelationalRule.{RelationalRule}
use Rattle.gb_steps.specs.declared.step.RelationalRule.TheVariants as relational_rule
use Rattle.gb_steps.specs.declared.step.Multiple.{Multiple}
use Rattle.gb_steps.specs.declared.step.ChanceRule.TheVariants as with_chance_rule
use Rattle.gb_steps.specs.declared.step.Acts.{Acts}
use Rattle.gb_steps.specs.declared.step.Acts.TheVariants as on
use Rattle.gb_steps.specs.declared.step.Step.{Step}
use Rattle.gb_steps.specs.declared.step.RewriteRule.TheVariants as rewrite_rule
use Rattle.gb_steps.specs.declared.step.UseRule.TheVariants as use_rule
use Rattle.gb_script.specs.declared.head.Head.{Head as Kind}
use Rattle.gb_script.specs.declared.head.Head.TheVariants as text
use Rattle.gb_script.specs.declared.tree.Node.{Node}
use Rattle.gb_script.specs.Tree.{head_of, text_of, parts_of, place_of}
use Rattle.gb_meaning.specs.Declared.{declared}
use Rattle.gb_laws.specs.Finite.{IsFinite}
use Rattle.gb_laws.specs.Typing.Binder.{value}
use Rattle.gb_typing.specs.Context.{Context, within}
use Rattle.gb_typing.specs.Sequents.{two, of_sequent, IsTypedSequent}
use Rattle.gb_typing.specs.Scopes.{context_of, IsTypedScope}
use Rattle.gb_typing.specs.Goals.{IsGoalOver}
use Rattle.gb_goal.specs.Answers.{Answer, ◌>>=◌}
use Rattle.gb_goal.specs.Answers.Answer.{given}
use Rattle.gb_names.specs.declared.setting.Language.TheVariants.{Function}
use Rattle.gb_names.specs.Environment.{Environment, of_function}
use Rattle.gb_elab.specs.Forms.{function}
use Rattle.gb_elab_mod.specs.Occurring.{occurring}
use Rattle.gb_operators.specs.Literals.{place_inside}
use Rattle.gb_elab_mod.specs.OnPrograms.{acts, cut_of, last_sampled, functions, of_bodies_rule, one_type, plain_rule, conseq_rule, case_of_bodies, seq_rule, there_and_back, of_bodies, couplings, drawing_rule, coupling_rule, functions_of, both_rule, chance_rule, judges_chance}
use Rattle.gb_elab_mod.specs.Steps.{conclusion_rule, case_of_conclusion, formed, sided_case_rule, typed_rule, step_given, witness_rule}
use Rattle.gb_elab_mod.specs.Multiples.{hypothesis_at, multiples, position}
use Rattle.gb_elab_mod.specs.Uses.{all_hinted, defined_operator, hypothesis, used}
use Rattle.gb_elab_mod.specs.Taken.{new_name}
use Rattle.gb_elab_mod.specs.OnPrograms as steps
use Rattle.gb_elab_prog.specs.Unbuilt.{absent}
use Rattle.gb_elab_laws.specs.Fitting.{IsFitting, IsGiven, of_each_module}
use Rattle.gb_equiv.specs.Rows.{IsTypedRule}
use Rattle.gb_typing.specs.Samplings.{Sampling, last_sampling}
use Rattle.gb_equiv.specs.Rnd.{IsFunction, AreFunctions, AreBetween, AreTypedFunctions}
use Rattle.gb_elab_laws.proofs.Betweens.{transitive_typed}
use Rattle.gb_elab_laws.proofs.Contracts.{of_call}
use Rattle.gb_elab_laws.proofs.Keeping.{of_entering}
use Rattle.gb_elab_laws.proofs.Conditions.{of_by}
use Rattle.gb_elab_laws.proofs.Transformings.{of_inlining, of_passing, of_placed}
use Rattle.gb_elab_laws.proofs.Turning.{of_while}
use Rattle.gb_elab_laws.proofs.EventLaws.{of_event_law, of_splitting}
use Rattle.gb_elab_laws.proofs.Given.{given_bind, given_is, if_given, not_given}
use Rattle.gb_elab_laws.proofs.Ends.{AreOfTheirTypes, ends_agree, last_finite, occurring_in}
use Rattle.gb_elab_laws.proofs.Fits.{function_fits, goal_fits}
use Rattle.gb_elab_laws.proofs.Shapes.{finite_each, value_form}
use Rattle.gb_elab_laws.proofs.Forms.{function_typed}
use Rattle.gb_elab_laws.proofs.Occurring.{reads_stand}

-- Functions of a coupling, in a context that fits.
module _ (c : Context) (ds : scope.Declarations) (q : Sequent) (xs ys : List TypedName) (fit : IsFitting of_each_module c (of_function ds q xs ys) []) where
  abbrev at : Environment
  at = of_function ds q xs ys

  one_typed : (f : Node) (a b : Ty) → IsFinite a → IsFinite b → (t : Term) → function f at a b ≡ given t → IsFunction c a b t
  one_typed f a b v w t h =
      let g : IsGiven of_each_module (within c (value a) None) Function (Some b) t = function_typed f c at fit a b (finite_each a v) (value_form b w) t h in
      record { typed = g.typed; plain = g.plain refl; result = g.wanted }

  -- functions there and back; one alone is given only where both types are one
  functions_typed : (fs : List Node) (a b : Ty) → IsFinite a → IsFinite b → (x : Unit {0}) (ts : List Term) → one_type fs a b ≡ given x → there_and_back at fs a b ≡ given ts →
      AreFunctions c a b ts
  unfolding there_and_back
  functions_typed [] a b v w x ts o h = subst (AreFunctions c a b) (given_is [] ts h) tt
  functions_typed (f ∷ []) a b v w x ts o h =
      let e : a ≡ b = (ty_eq-Decides a b).0 (if_given (ty_eq a b) tt TypeMismatch (place_inside f) x o).0 in
      let t = given_bind (function f at a b) _ ts h in
      subst (AreFunctions c a b) (given_is (t.0 ∷ []) ts t.2) (e, one_typed f a b v w t.0 t.1)
  functions_typed (f ∷ g ∷ fs) a b v w x ts o h =
      let t = given_bind (function f at a b) _ ts h in
      let us = given_bind (functions at (g ∷ fs) b a) (λ (us : List Term). given (t.0 ∷ us)) ts t.2 in
      let u = given_bind (function g at b a) _ us.0 us.1 in
      let rs = given_bind (functions at fs b a) (λ (rs : List Term). given (u.0 ∷ rs)) us.0 u.2 in
      subst (AreFunctions c a b) {x = t.0 ∷ us.0} (given_is (t.0 ∷ us.0) ts us.2)
      (subst (λ z. AreFunctions c a b (t.0 ∷ z)) {x = u.0 ∷ rs.0} (given_is (u.0 ∷ rs.0) us.0 rs.2) (pair rs.0 (one_typed f a b v w t.0 t.1) (one_typed g b a w v u.0 u.1)))
    where
      pair : {t u : Term} (rs : List Term) → IsFunction c a b t → IsFunction c b a u → AreFunctions c a b (t ∷ u ∷ rs)
      pair [] k l = (k, l)
      pair (r ∷ rs) k l = tt

-- a rule on equivalences that has terms or forms
abbrev has_arguments : Rule → Bool
has_arguments (rule.Relational (relational_rule.Rnd ts)) = true
has_arguments (rule.Relational (relational_rule.Transitivity u)) = true
has_arguments _ = false

module _ (ds : scope.Declarations) (scoped : IsTypedScope (declared ds)) (q : Sequent) (t : IsTypedSequent (context_of (declared ds)) q) where
  abbrev here : Context
  here = of_sequent (context_of (declared ds)) q t.frames

  known : AreOfTheirTypes here ds
  known = (goal_fits ds scoped q t).procedures refl

  module _ (ls rs : List TypedName) where
    -- the functions between two types, over the locals that occur in these conditions and the bodies
    abbrev typed_between : List Node → List Term → Cmd × Cmd → Ty × Ty → Answer (List Term)
    typed_between fs conditions d u =
        one_type fs u.0 u.1 >>= λ _. there_and_back (of_function ds q (occurring ds conditions side.Left d.0.list) (occurring ds conditions side.Right d.1.list)) fs u.0 u.1

    abbrev typed_at_ends : List Node → List Term → Cmd × Cmd → Answer (List Term)
    typed_at_ends fs conditions d = option_map_or (typed_between fs conditions d) (option_zip (last_sampled d.0) (last_sampled d.1)) (given [])

    -- two bodies
    module _ (fs : List Node) (l r : Cmd) (p k : Term) (w : IsGoalOver here ls rs (equiv (code_at (layer.Body l)) (code_at (layer.Body r)) p k)) where
      abbrev conditions : List Term
      conditions = p ∷ k ∷ []

      fits : IsFitting of_each_module (two here ls rs) (of_function ds q (occurring ds conditions side.Left l.list) (occurring ds conditions side.Right r.list)) []
      fits =
          function_fits ds scoped q t ls rs _ _
          (occurring_in ls here ds known side.Left p k l.list (reads_stand (two here ls rs) p w.3.typed side.Left tt) (reads_stand (two here ls rs) k w.4.typed side.Left tt) w.1)
          (occurring_in rs here ds known side.Right p k r.list (reads_stand (two here ls rs) p w.3.typed side.Right tt) (reads_stand (two here ls rs) k w.4.typed side.Right tt) w.2)

      at_ends : (x y : Option Sampling) (us : List Term) → ((a : Ty) → option_map (λ (z : Sampling). z.ty) x ≡ Some a → IsFinite a) →
          ((a : Ty) → option_map (λ (z : Sampling). z.ty) y ≡ Some a → IsFinite a) →
          option_map_or (typed_between fs conditions (l, r)) (option_zip (option_map (λ (z : Sampling). z.ty) x) (option_map (λ (z : Sampling). z.ty) y)) (given []) ≡ given us →
          AreBetween (two here ls rs) us (option_zip x y)
      at_ends (Some x) (Some y) us f g h =
          let o = given_bind (one_type fs x.ty y.ty) (λ _. there_and_back (of_function ds q (occurring ds conditions side.Left l.list) (occurring ds conditions side.Right r.list)) fs x.ty y.ty) us h in
          functions_typed (two here ls rs) ds q _ _ fits fs x.ty y.ty (f x.ty refl) (g y.ty refl) o.0 us o.1 o.2
      at_ends (Some x) None us f g h = tt
      at_ends None y us f g h = tt

      of_ends : (us : List Term) → typed_at_ends fs conditions (l, r) ≡ given us → AreBetween (two here ls rs) us (option_zip (last_sampling l.list) (last_sampling r.list))
      of_ends us h =
          at_ends (last_sampling l.list) (last_sampling r.list) us
          (λ a e. last_finite here ls l w.1.statements a (ends_agree l ∙ e)) (λ a e. last_finite here rs r w.2.statements a (ends_agree r ∙ e))
          (ap (λ z. option_map_or (typed_between fs conditions (l, r)) (option_zip (option_map (λ (z : Sampling). z.ty) (last_sampling l.list)) z) (given [])) (sym (ends_agree r))
          ∙ ap (λ z. option_map_or (typed_between fs conditions (l, r)) (option_zip z (last_sampled r)) (given [])) (sym (ends_agree l))
          ∙ h)

    abbrev Layer : Type 0
    Layer = layer.Subject-F Head Instr Subject Cmd Term

    of_subjects : (fs : List Node) (x y : Layer) (p k : Term) (us : List Term) → option_map_or (typed_at_ends fs (p ∷ k ∷ [])) (steps.of_subjects x y) (given []) ≡ given us →
        IsGoalOver here ls rs (equiv (code_at x) (code_at y) p k) → AreTypedFunctions here us ls rs (equiv (code_at x) (code_at y) p k)
    of_subjects fs (layer.Body l) (layer.Body r) p k us h w = of_ends fs l r p k w us h
    of_subjects fs (layer.Body l) (layer.Proc r) p k us h w = tt
    of_subjects fs (layer.Proc l) y p k us h w = tt

    of_head : (fs : List Node) (f : Term) (n : Head) (ts us : List Term) → option_map_or (typed_at_ends fs ts) (steps.of_head n) (given []) ≡ given us →
        IsGoalOver here ls rs (goal_at f n ts) → AreTypedFunctions here us ls rs (goal_at f n ts)
    of_head fs f (head.Equiv s u) (p ∷ k ∷ []) us h w = of_subjects fs (out-Subject s) (out-Subject u) p k us h w
    of_head fs f (head.Equiv s u) [] us h w = tt
    of_head fs f (head.Equiv s u) (p ∷ []) us h w = tt
    of_head fs f (head.Equiv s u) (p ∷ k ∷ x ∷ ts) us h w = tt
    of_head fs f (head.Hoare s) [] us h w = tt
    of_head fs f (head.Hoare s) (p ∷ []) us h w = tt
    of_head fs f (head.Hoare s) (p ∷ k ∷ []) us h w = tt
    of_head fs f (head.Hoare s) (p ∷ k ∷ x ∷ ts) us h w = tt
    of_head fs f (head.Phoare s r) [] us h w = tt
    of_head fs f (head.Phoare s r) (p ∷ []) us h w = tt
    of_head fs f (head.Phoare s r) (p ∷ k ∷ []) us h w = tt
    of_head fs f (head.Phoare s r) (p ∷ k ∷ b ∷ []) us h w = tt
    of_head fs f (head.Phoare s r) (p ∷ k ∷ b ∷ x ∷ ts) us h w = tt
    of_head fs f _ ts us h w = tt

    abbrev Typed : List Term → Type 0
    Typed us = AreTypedFunctions here us ls rs (goal_of q.conclusion)

    module _ (w : IsGoalOver here ls rs (goal_of q.conclusion)) where
      couplings_typed : (fs : List Node) (us : List Term) → couplings ds q fs ≡ given us → Typed us
      unfolding couplings
      couplings_typed fs us h = of_head fs q.conclusion (out-Term q.conclusion).head (out-Term q.conclusion).args us h w

      -- the rule's arguments are typed
      abbrev Asked : Rule → Type 0
      Asked k = IsTypedRule here k ls rs (goal_of q.conclusion)

      coupling_asked : (b : Bool) (fs : List Node) (ts : List Term) → Typed ts → Asked (coupling_rule b fs ts)
      coupling_asked true [] ts w = tt
      coupling_asked false [] ts w = w
      coupling_asked true (f ∷ fs) [] w = tt
      coupling_asked false (f ∷ fs) [] w = tt
      coupling_asked true (f ∷ fs) (t ∷ ts) w = w
      coupling_asked false (f ∷ fs) (t ∷ ts) w = w

      -- whether the goal has a probability
      abbrev with_chance : Bool
      with_chance = judges_chance (out-Term q.conclusion).head

      untouched : (j : Rule) → has_arguments j ≡ false → Asked j
      untouched (rule.Relational (relational_rule.Rnd us)) n = absurd (false≢true (sym n))
      untouched (rule.Relational (relational_rule.Transitivity u)) n = absurd (false≢true (sym n))
      untouched (rule.Relational relational_rule.Symmetry) n = tt
      untouched (rule.Relational (relational_rule.Drawn a)) n = tt
      untouched (rule.Relational relational_rule.Sim) n = tt
      untouched (rule.OnBodies r) n = tt
      untouched (rule.Chance r) n = tt
      untouched (rule.Probability r) n = tt
      untouched (rule.Call r) n = tt
      untouched (rule.Abstract r) n = tt
      untouched (rule.Smt fs) n = tt
      untouched (rule.Linear ms) n = tt
      untouched (rule.Ambient r) n = tt
      untouched (rule.Use r) n = tt
      untouched (rule.Rewrite r) n = tt
      untouched (rule.CallKnown a f) n = tt
      untouched (rule.While i) n = tt
      untouched (rule.Transform a t) n = tt

      -- a rule without such arguments
      other : (j k : Rule) → has_arguments j ≡ false → j ≡ k → Asked k
      other j k n e = subst Asked e (untouched j n)

      of_case : (f : Node) (k : Rule) (b : Bool) → (if b then of_bodies_rule (case_of_bodies ds q f (goal_of q.conclusion)) else case_of_conclusion ds q f) ≡ given k → Asked k
      of_case f k true h =
          let y = given_bind (case_of_bodies ds q f (goal_of q.conclusion)) (λ z. given (rule.OnBodies z)) k h in other (rule.OnBodies y.0) k refl (given_is (rule.OnBodies y.0) k y.2)
      of_case f k false h =
          let z = given_bind (formed ds q f) (λ (t : Term). given (rule.Ambient (conclusion.Case t))) k h in
          other (rule.Ambient (conclusion.Case z.0)) k refl (given_is (rule.Ambient (conclusion.Case z.0)) k z.2)

      of_chance : (a : Acts) (k : Rule) → chance_rule a ≡ k → Asked k
      of_chance on.All k h = other (rule.Chance with_chance_rule.Hoare) k refl h
      of_chance on.Left k h = other (rule.OnBodies on_bodies.Unfit) k refl h
      of_chance on.Right k h = other (rule.OnBodies on_bodies.Unfit) k refl h

      of_both : (r : RelationalRule) → has_arguments (rule.Relational r) ≡ false → (a : Acts) (k : Rule) → both_rule r a ≡ k → Asked k
      of_both r n on.All k h = other (rule.Relational r) k n h
      of_both r n on.Left k h = other (rule.OnBodies on_bodies.Unfit) k refl h
      of_both r n on.Right k h = other (rule.OnBodies on_bodies.Unfit) k refl h

      of_name : (x : List ℕ) (a : Acts) (p : Place) (k : Rule) (b d e : Bool) →
          (if b then given (chance_rule a) else if d then given (both_rule relational_rule.Symmetry a) else if e then given (both_rule relational_rule.Sim a) else of_bodies_rule (plain_rule x a p)) ≡ given k → Asked k
      of_name x a p k true d e h = of_chance a k (given_is (chance_rule a) k h)
      of_name x a p k false true e h = of_both relational_rule.Symmetry refl a k (given_is (both_rule relational_rule.Symmetry a) k h)
      of_name x a p k false false true h = of_both relational_rule.Sim refl a k (given_is (both_rule relational_rule.Sim a) k h)
      of_name x a p k false false false h = let y = given_bind (plain_rule x a p) (λ z. given (rule.OnBodies z)) k h in other (rule.OnBodies y.0) k refl (given_is (rule.OnBodies y.0) k y.2)

      of_sides : (a : Acts) (f : Node) (k : Rule) → sided_case_rule ds q a f ≡ given k → Asked k
      of_sides on.All f k h = of_case f k (judges_bodies (out-Term q.conclusion).head) h
      of_sides on.Left f k h = other (rule.OnBodies on_bodies.Unfit) k refl (given_is (rule.OnBodies on_bodies.Unfit) k h)
      of_sides on.Right f k h = other (rule.OnBodies on_bodies.Unfit) k refl (given_is (rule.OnBodies on_bodies.Unfit) k h)

      of_drawing : (a : Acts) (fs : List Node) (k : Rule) → drawing_rule ds q a fs ≡ given k → Asked k
      unfolding drawing_rule
      of_drawing on.All fs k h =
          let y = given_bind (couplings ds q fs) (λ (us : List Term). given (coupling_rule with_chance fs us)) k h in
          subst Asked (given_is (coupling_rule with_chance fs y.0) k y.2) (coupling_asked with_chance fs y.0 (couplings_typed fs y.0 y.1))
      of_drawing on.Left [] k h = other (rule.Relational (relational_rule.Drawn on.Left)) k refl (given_is (rule.Relational (relational_rule.Drawn on.Left)) k h)
      of_drawing on.Left (f ∷ fs) k h = other (rule.OnBodies on_bodies.Unfit) k refl (given_is (rule.OnBodies on_bodies.Unfit) k h)
      of_drawing on.Right [] k h = other (rule.Relational (relational_rule.Drawn on.Right)) k refl (given_is (rule.Relational (relational_rule.Drawn on.Right)) k h)
      of_drawing on.Right (f ∷ fs) k h = other (rule.OnBodies on_bodies.Unfit) k refl (given_is (rule.OnBodies on_bodies.Unfit) k h)

      of_rule : (n : Kind) (x : List ℕ) (xs : List Node) (p : Place) (k : Rule) → typed_rule ds q n x xs p ≡ given k → Asked k
      of_rule text.Rnd x (b ∷ fs) p k h = of_drawing (acts (parts_of b)) (functions_of fs) k h
      of_rule text.Proc x (b ∷ i ∷ []) p k h = of_entering ds q Asked (λ a. tt) (λ n f e. tt) tt (acts (parts_of b)) (parts_of i) p k h
      of_rule text.BodyStep x (b ∷ []) p k h = of_name x (acts (parts_of b)) p k (bytes_eq x (codes "hoare")) (bytes_eq x (codes "symmetry")) (bytes_eq x (codes "sim")) h
      of_rule text.Seq x (b ∷ n ∷ ns ∷ f ∷ bounds ∷ []) p k h =
          let o = given_bind (absent (parts_of bounds) p) (λ _. of_bodies_rule (seq_rule ds q (acts (parts_of b)) (cut_of n (parts_of ns)) f)) k h in
          let y = given_bind (seq_rule ds q (acts (parts_of b)) (cut_of n (parts_of ns)) f) (λ z. given (rule.OnBodies z)) k o.2 in
          other (rule.OnBodies y.0) k refl (given_is (rule.OnBodies y.0) k y.2)
      of_rule text.Conseq x (b ∷ f ∷ g ∷ d ∷ []) p k h =
          let y = given_bind (conseq_rule ds q (acts (parts_of b)) (parts_of f) (parts_of g) (parts_of d)) (λ z. given (rule.OnBodies z)) k h in
          other (rule.OnBodies y.0) k refl (given_is (rule.OnBodies y.0) k y.2)
      of_rule text.CallStep x (b ∷ n ∷ []) p k h =
          of_call ds q Asked (λ s. tt) (λ a n f e. tt) (λ n f e. tt) (λ m n u e. tt) tt (acts (parts_of b)) (head_of n) (parts_of n) p k h
      of_rule text.Transitivity x (b ∷ n ∷ []) p k h = transitive_typed ds scoped q t ls rs w (acts (parts_of b)) (head_of n) (parts_of n) p k h
      of_rule text.PlainStep x [] p k h =
          let o = given_bind (conclusion_rule x p) (λ (a : AmbientRule). given (rule.Ambient a)) k h in other (rule.Ambient o.0) k refl (given_is (rule.Ambient o.0) k o.2)
      of_rule text.WhileStep x (b ∷ f ∷ []) p k h = of_while ds q Asked (λ v. tt) tt (acts (parts_of b)) f k h
      of_rule text.Inline x (b ∷ n ∷ []) p k h = of_inlining Asked (λ a t. tt) ds q (acts (parts_of b)) (parts_of n) p k h
      of_rule text.ByStep x (m ∷ n ∷ []) p k h = of_by ds q m n Asked (λ b e z g. tt) (λ b e z g. tt) tt x p k h
      of_rule text.CaseStep x (b ∷ f ∷ []) p k h =
          of_sides (acts (parts_of b)) f k h
      of_rule text.HaveForm x (n ∷ f ∷ []) p k h =
          let o = given_bind (new_name ds q (text_of n) (place_of n)) _ k h in
          let z = given_bind (formed ds q f) (λ (t : Term). given (rule.Ambient (conclusion.Have (text_of n) t))) k o.2 in
          other (rule.Ambient (conclusion.Have (text_of n) z.0)) k refl (given_is (rule.Ambient (conclusion.Have (text_of n) z.0)) k z.2)
      of_rule text.ApplyLemma x (n ∷ []) p k h =
          let z = given_bind (used ds q n) (λ (f : Term). given (rule.Use (use_rule.Apply f))) k h in
          other (rule.Use (use_rule.Apply z.0)) k refl (given_is (rule.Use (use_rule.Apply z.0)) k z.2)
      of_rule text.HaveLemma x (m ∷ n ∷ []) p k h =
          let o = given_bind (new_name ds q (text_of m) (place_of m)) _ k h in
          let z = given_bind (used ds q n) (λ (f : Term). given (rule.Use (use_rule.Have (text_of m) f))) k o.2 in
          other (rule.Use (use_rule.Have (text_of m) z.0)) k refl (given_is (rule.Use (use_rule.Have (text_of m) z.0)) k z.2)
      of_rule text.RewriteLemma x (n ∷ []) p k h =
          let z = given_bind (used ds q n) (λ (f : Term). given (rule.Rewrite (rewrite_rule.Forward f))) k h in
          other (rule.Rewrite (rewrite_rule.Forward z.0)) k refl (given_is (rule.Rewrite (rewrite_rule.Forward z.0)) k z.2)
      of_rule text.RewriteBack x (n ∷ []) p k h =
          let z = given_bind (used ds q n) (λ (f : Term). given (rule.Rewrite (rewrite_rule.Back f))) k h in
          other (rule.Rewrite (rewrite_rule.Back z.0)) k refl (given_is (rule.Rewrite (rewrite_rule.Back z.0)) k z.2)
      of_rule text.RewriteHypothesis x (n ∷ []) p k h =
          let z = given_bind (hypothesis ds q (text_of n) (place_of n)) (λ (f : Term). given (rule.Rewrite (rewrite_rule.Forward f))) k h in
          other (rule.Rewrite (rewrite_rule.Forward z.0)) k refl (given_is (rule.Rewrite (rewrite_rule.Forward z.0)) k z.2)
      of_rule text.Subst x (n ∷ []) p k h =
          let z = given_bind (hypothesis_at ds q (text_of n) (place_of n)) (λ (i : ℕ). given (rule.Rewrite (rewrite_rule.Subst i))) k h in
          other (rule.Rewrite (rewrite_rule.Subst z.0)) k refl (given_is (rule.Rewrite (rewrite_rule.Subst z.0)) k z.2)
      of_rule text.RewriteOperator x (n ∷ []) p k h =
          let z = given_bind (defined_operator ds q n) (λ (y : List ℕ). given (rule.Rewrite (rewrite_rule.Unfold y))) k h in
          other (rule.Rewrite (rewrite_rule.Unfold z.0)) k refl (given_is (rule.Rewrite (rewrite_rule.Unfold z.0)) k z.2)
      of_rule text.RewriteLaw x [] p k h = of_event_law Asked (λ l n. tt) (λ r. tt) (λ r. tt) x p k h
      of_rule text.RewriteSplit x (e ∷ []) p k h = of_splitting ds q e Asked (λ f i u g. tt) tt k h
      of_rule text.Smt x hints p k h =
          let o = given_bind (all_hinted ds q hints) (λ (fs : List Term). given (rule.Smt fs)) k h in other (rule.Smt o.0) k refl (given_is (rule.Smt o.0) k o.2)
      of_rule text.Linear x hs p k h =
          let o = given_bind (multiples ds q hs) (λ (ms : List Multiple). given (rule.Linear ms)) k h in other (rule.Linear o.0) k refl (given_is (rule.Linear o.0) k o.2)
      of_rule text.Name x [] p k h = other (rule.Ambient (conclusion.Introduce x)) k refl (given_is (rule.Ambient (conclusion.Introduce x)) k h)
      of_rule text.Memory x (n ∷ []) p k h = other (rule.Ambient (conclusion.IntroduceMemory (text_of n))) k refl (given_is (rule.Ambient (conclusion.IntroduceMemory (text_of n))) k h)
      of_rule text.Drop x [] p k h = other (rule.Ambient conclusion.Discard) k refl (given_is (rule.Ambient conclusion.Discard) k h)
      of_rule text.BothPatterns x ps p k h = other (rule.Ambient conclusion.Unpack) k refl (given_is (rule.Ambient conclusion.Unpack) k h)
      of_rule text.EitherPattern x ps p k h = other (rule.Ambient conclusion.Branch) k refl (given_is (rule.Ambient conclusion.Branch) k h)
      of_rule text.Witness x (e ∷ []) p k h =
          let o = given_bind (witness_rule ds q e) (λ (a : AmbientRule). given (rule.Ambient a)) k h in other (rule.Ambient o.0) k refl (given_is (rule.Ambient o.0) k o.2)
      of_rule text.TrivialPattern x [] p k h = other (rule.Ambient conclusion.Trivial) k refl (given_is (rule.Ambient conclusion.Trivial) k h)
      of_rule text.SmtPattern x [] p k h = other (rule.Smt []) k refl (given_is (rule.Smt []) k h)
      of_rule text.Swap x (b ∷ n ∷ d ∷ []) p k h = of_passing Asked (λ a t. tt) (acts (parts_of b)) n (head_of d) (parts_of d) p k h
      of_rule text.PositionStep x (b ∷ n ∷ []) p k h = of_placed Asked (λ a t. tt) x (acts (parts_of b)) (position n) p k h
      of_rule _ x _ p k h = absurd (not_given _ _ k h)

-- The arguments of a typed step are typed.
pub rule_typed : (ds : scope.Declarations) → IsTypedScope (declared ds) → (q : Sequent) (t : IsTypedSequent (context_of (declared ds)) q) → (n : Node) (s : Step) → step_given ds q n ≡ given s →
    (ls rs : List TypedName) → IsGoalOver (of_sequent (context_of (declared ds)) q t.frames) ls rs (goal_of q.conclusion) →
    IsTypedRule (of_sequent (context_of (declared ds)) q t.frames) s.rule ls rs (goal_of q.conclusion)
unfolding step_given
rule_typed ds scoped q t n s h ls rs w =
    let x = given_bind (typed_rule ds q (head_of n) (text_of n) (parts_of n) (place_of n)) (λ (k : Rule). given (record { rule = k; place = place_of n })) s h in
    subst (λ (z : Step). IsTypedRule (of_sequent (context_of (declared ds)) q t.frames) z.rule ls rs (goal_of q.conclusion)) (given_is (record { rule = x.0; place = place_of n }) s x.2)
    (of_rule ds scoped q t ls rs w (head_of n) (text_of n) (parts_of n) (place_of n) x.0 x.1)
