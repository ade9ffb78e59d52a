-- What typing makes of a step, by its kind.
use Rattle.std.proofs.Common.{◌≡◌, ℕ, Bool, true, false, if◌then◌else◌, List, [], ◌∷◌, ap, subst}
use Rattle.std.specs.Prelude.{bytes_eq, codes}
use Rattle.gb_core.specs.declared.place.Place.{Place}
use Rattle.gb_terms.specs.declared.term.Term.{Term, out-Term}
use Rattle.gb_goal.specs.Goal.{goal_of, judges_bodies}
use Rattle.gb_goal.specs.Scope.{Declarations}
use Rattle.gb_goal.specs.declared.sequent.Sequent.{Sequent}
use Rattle.gb_goal.specs.Answers.Answer.{given}
use Rattle.gb_steps.specs.declared.step.Acts.{Acts}
use Rattle.gb_steps.specs.declared.step.Acts.TheVariants as on
use Rattle.gb_steps.specs.declared.step.AmbientRule.{AmbientRule}
use Rattle.gb_steps.specs.declared.step.AmbientRule.TheVariants as conclusion
use Rattle.gb_steps.specs.declared.step.BodyRule.TheVariants as on_bodies
use Rattle.gb_steps.specs.declared.step.Multiple.{Multiple}
use Rattle.gb_steps.specs.declared.step.ProbabilityRule.TheVariants.{ByEquiv, ByPhoare, ByEvents, Within}
use Rattle.gb_steps.specs.declared.step.RelationalRule.{RelationalRule}
use Rattle.gb_steps.specs.declared.step.RelationalRule.TheVariants as relational_rule
use Rattle.gb_steps.specs.declared.step.RewriteRule.TheVariants as rewrite_rule
use Rattle.gb_steps.specs.declared.step.Rule.{Rule}
use Rattle.gb_steps.specs.declared.step.Rule.TheVariants as rule
use Rattle.gb_steps.specs.declared.step.Step.{Step}
use Rattle.gb_steps.specs.declared.step.UseRule.TheVariants as use_rule
use Rattle.gb_script.specs.declared.head.Head.{Head as Kind}
use Rattle.gb_script.specs.declared.head.Head.TheVariants as text
use Rattle.gb_script.specs.declared.tree.Node.{Node}
use Rattle.gb_script.specs.Tree.{head_of, text_of, parts_of, place_of}
use Rattle.gb_steps.specs.First.{first_procedure}
use Rattle.gb_elab_mod.specs.Multiples.{hypothesis_at, multiples, position}
use Rattle.gb_elab_mod.specs.OnPrograms.{acts, both_rule, by_rule, call_rule, case_of_bodies, chance_rule, conseq_rule, coupling_rule, couplings, cut_of, drawing_rule, entering_rule, functions_of, judges_chance, of_bodies_rule, plain_rule, seq_rule}
use Rattle.gb_elab_mod.specs.Steps.{case_of_conclusion, conclusion_rule, formed, sided_case_rule, splitting_rule, step_given, typed_rule, witness_rule}
use Rattle.gb_elab_mod.specs.Taken.{new_name}
use Rattle.gb_elab_mod.specs.Uses.{all_hinted, defined_operator, hypothesis, used}
use Rattle.gb_elab_prog.specs.Unbuilt.{absent}
use Rattle.gb_elab_laws.proofs.Betweens.{of_transitive}
use Rattle.gb_elab_laws.proofs.EventLaws.{BringsNone, of_event_law}
use Rattle.gb_elab_laws.proofs.Given.{given_bind, given_is, not_given}
use Rattle.gb_elab_laws.proofs.Transformings.{of_inlining, of_passing, of_placed}
use Rattle.gb_elab_laws.proofs.Turning.{of_while}

-- a step of another kind than one by what is said of procedures, by what oracles keep, or by what is said of what stands after procedures
abbrev pub IsOther : Rule → Type 0
IsOther (rule.Call s) = ⊥
IsOther (rule.Abstract r) = ⊥
IsOther (rule.Probability (ByEquiv s)) = ⊥
IsOther (rule.Probability (ByPhoare s)) = ⊥
IsOther (rule.Rewrite (rewrite_rule.Law l)) = BringsNone l
IsOther _ = Unit {0}

coupling_other : (b : Bool) (fs : List Node) (us : List Term) → IsOther (coupling_rule b fs us)
coupling_other true [] us = tt
coupling_other false [] us = tt
coupling_other true (f ∷ fs) [] = tt
coupling_other false (f ∷ fs) [] = tt
coupling_other true (f ∷ fs) (u ∷ us) = tt
coupling_other false (f ∷ fs) (u ∷ us) = tt

chance_other : (a : Acts) → IsOther (chance_rule a)
chance_other on.All = tt
chance_other on.Left = tt
chance_other on.Right = tt

both_other : (r : RelationalRule) (a : Acts) → IsOther (both_rule r a)
both_other r on.All = tt
both_other r on.Left = tt
both_other r on.Right = tt

-- What holds of each step of another kind, and of those that are made of what is said of procedures, holds of each typed step.
module _ (ds : Declarations) (q : Sequent) (P : Rule → Type 0) (others : (k : Rule) → IsOther k → P k)
    (called : (a : Acts) (j : Kind) (ns : List Node) (p : Place) (k : Rule) → call_rule ds q a j ns p ≡ given k → P k)
    (entering : (a : Acts) (ns : List Node) (p : Place) (k : Rule) → entering_rule ds q a ns p ≡ given k → P k)
    (compared : (m n : Node) (x : List ℕ) (p : Place) (k : Rule) → by_rule ds q x m n p ≡ given k → P k)
    (divided : (e : Node) (k : Rule) → splitting_rule ds q e (first_procedure q.conclusion) ≡ given k → P k) where
  other : (j k : Rule) → IsOther j → given j ≡ given k → P k
  other j k i h = subst P (given_is j k h) (others j i)

  -- whether the goal has a probability
  abbrev with_chance : Bool
  with_chance = judges_chance (out-Term q.conclusion).head

  of_name : (x : List ℕ) (a : Acts) (p : Place) (k : Rule) (b d e : Bool) →
      (if b then given (chance_rule a) else if d then given (both_rule relational_rule.Symmetry a) else if e then given (both_rule relational_rule.Sim a) else of_bodies_rule (plain_rule x a p)) ≡ given k → P k
  of_name x a p k true d e h = other (chance_rule a) k (chance_other a) h
  of_name x a p k false true e h = other (both_rule relational_rule.Symmetry a) k (both_other relational_rule.Symmetry a) h
  of_name x a p k false false true h = other (both_rule relational_rule.Sim a) k (both_other relational_rule.Sim a) h
  of_name x a p k false false false h = let y = given_bind (plain_rule x a p) (λ z. given (rule.OnBodies z)) k h in other (rule.OnBodies y.0) k tt y.2

  of_case : (f : Node) (k : Rule) (b : Bool) → (if b then of_bodies_rule (case_of_bodies ds q f (goal_of q.conclusion)) else case_of_conclusion ds q f) ≡ given k → P k
  of_case f k true h = let y = given_bind (case_of_bodies ds q f (goal_of q.conclusion)) (λ z. given (rule.OnBodies z)) k h in other (rule.OnBodies y.0) k tt y.2
  of_case f k false h = let y = given_bind (formed ds q f) (λ (u : Term). given (rule.Ambient (conclusion.Case u))) k h in other (rule.Ambient (conclusion.Case y.0)) k tt y.2

  of_sides : (a : Acts) (f : Node) (k : Rule) → sided_case_rule ds q a f ≡ given k → P k
  of_sides on.All f k h = of_case f k (judges_bodies (out-Term q.conclusion).head) h
  of_sides on.Left f k h = other (rule.OnBodies on_bodies.Unfit) k tt h
  of_sides on.Right f k h = other (rule.OnBodies on_bodies.Unfit) k tt h

  of_drawing : (a : Acts) (fs : List Node) (k : Rule) → drawing_rule ds q a fs ≡ given k → P k
  unfolding drawing_rule
  of_drawing on.All fs k h =
      let y = given_bind (couplings ds q fs) (λ (us : List Term). given (coupling_rule with_chance fs us)) k h in
      other (coupling_rule with_chance fs y.0) k (coupling_other with_chance fs y.0) y.2
  of_drawing on.Left [] k h = other (rule.Relational (relational_rule.Drawn on.Left)) k tt h
  of_drawing on.Left (f ∷ fs) k h = other (rule.OnBodies on_bodies.Unfit) k tt h
  of_drawing on.Right [] k h = other (rule.Relational (relational_rule.Drawn on.Right)) k tt h
  of_drawing on.Right (f ∷ fs) k h = other (rule.OnBodies on_bodies.Unfit) k tt h

  of_rule : (n : Kind) (x : List ℕ) (xs : List Node) (p : Place) (k : Rule) → typed_rule ds q n x xs p ≡ given k → P k
  of_rule text.ByStep x (m ∷ n ∷ []) p k h = compared m n x p k h
  of_rule text.PlainStep x [] p k h =
      let y = given_bind (conclusion_rule x p) (λ (a : AmbientRule). given (rule.Ambient a)) k h in other (rule.Ambient y.0) k tt y.2
  of_rule text.CallStep x (b ∷ n ∷ []) p k h = called (acts (parts_of b)) (head_of n) (parts_of n) p k h
  of_rule text.WhileStep x (b ∷ f ∷ []) p k h = of_while ds q P (λ v. others (rule.While v) tt) (others (rule.OnBodies on_bodies.Unfit) tt) (acts (parts_of b)) f k h
  of_rule text.Inline x (b ∷ n ∷ []) p k h = of_inlining P (λ a t. others (rule.Transform a t) tt) ds q (acts (parts_of b)) (parts_of n) p k h
  of_rule text.CaseStep x (b ∷ f ∷ []) p k h = of_sides (acts (parts_of b)) f k h
  of_rule text.HaveForm x (n ∷ f ∷ []) p k h =
      let o = given_bind (new_name ds q (text_of n) (place_of n)) _ k h in
      let y = given_bind (formed ds q f) (λ (u : Term). given (rule.Ambient (conclusion.Have (text_of n) u))) k o.2 in other (rule.Ambient (conclusion.Have (text_of n) y.0)) k tt y.2
  of_rule text.Transitivity x (b ∷ n ∷ []) p k h = of_transitive ds q P (λ u. others (rule.Relational (relational_rule.Transitivity u)) tt) (others (rule.OnBodies on_bodies.Unfit) tt) (acts (parts_of b)) (head_of n) (parts_of n) p k h
  of_rule text.Rnd x (b ∷ fs) p k h = of_drawing (acts (parts_of b)) (functions_of fs) k h
  of_rule text.Proc x (b ∷ i ∷ []) p k h = entering (acts (parts_of b)) (parts_of i) p k h
  of_rule text.BodyStep x (b ∷ []) p k h = of_name x (acts (parts_of b)) p k (bytes_eq x (codes "hoare")) (bytes_eq x (codes "symmetry")) (bytes_eq x (codes "sim")) h
  of_rule text.Seq x (b ∷ n ∷ ns ∷ f ∷ bounds ∷ []) p k h =
      let o = given_bind (absent (parts_of bounds) p) (λ _. of_bodies_rule (seq_rule ds q (acts (parts_of b)) (cut_of n (parts_of ns)) f)) k h in
      let y = given_bind (seq_rule ds q (acts (parts_of b)) (cut_of n (parts_of ns)) f) (λ z. given (rule.OnBodies z)) k o.2 in other (rule.OnBodies y.0) k tt y.2
  of_rule text.Conseq x (b ∷ f ∷ g ∷ d ∷ []) p k h =
      let y = given_bind (conseq_rule ds q (acts (parts_of b)) (parts_of f) (parts_of g) (parts_of d)) (λ z. given (rule.OnBodies z)) k h in other (rule.OnBodies y.0) k tt y.2
  of_rule text.ApplyLemma x (n ∷ []) p k h =
      let y = given_bind (used ds q n) (λ (f : Term). given (rule.Use (use_rule.Apply f))) k h in other (rule.Use (use_rule.Apply y.0)) k tt y.2
  of_rule text.HaveLemma x (m ∷ n ∷ []) p k h =
      let o = given_bind (new_name ds q (text_of m) (place_of m)) _ k h in
      let y = given_bind (used ds q n) (λ (f : Term). given (rule.Use (use_rule.Have (text_of m) f))) k o.2 in other (rule.Use (use_rule.Have (text_of m) y.0)) k tt y.2
  of_rule text.RewriteLemma x (n ∷ []) p k h =
      let y = given_bind (used ds q n) (λ (f : Term). given (rule.Rewrite (rewrite_rule.Forward f))) k h in other (rule.Rewrite (rewrite_rule.Forward y.0)) k tt y.2
  of_rule text.RewriteBack x (n ∷ []) p k h =
      let y = given_bind (used ds q n) (λ (f : Term). given (rule.Rewrite (rewrite_rule.Back f))) k h in other (rule.Rewrite (rewrite_rule.Back y.0)) k tt y.2
  of_rule text.RewriteHypothesis x (n ∷ []) p k h =
      let y = given_bind (hypothesis ds q (text_of n) (place_of n)) (λ (f : Term). given (rule.Rewrite (rewrite_rule.Forward f))) k h in other (rule.Rewrite (rewrite_rule.Forward y.0)) k tt y.2
  of_rule text.Subst x (n ∷ []) p k h =
      let y = given_bind (hypothesis_at ds q (text_of n) (place_of n)) (λ (i : ℕ). given (rule.Rewrite (rewrite_rule.Subst i))) k h in other (rule.Rewrite (rewrite_rule.Subst y.0)) k tt y.2
  of_rule text.RewriteOperator x (n ∷ []) p k h =
      let y = given_bind (defined_operator ds q n) (λ (z : List ℕ). given (rule.Rewrite (rewrite_rule.Unfold z))) k h in other (rule.Rewrite (rewrite_rule.Unfold y.0)) k tt y.2
  of_rule text.RewriteLaw x [] p k h = of_event_law P (λ l n. others (rule.Rewrite (rewrite_rule.Law l)) n) (λ r. others (rule.Probability (ByEvents r)) tt) (λ r. others (rule.Probability (Within r)) tt) x p k h
  of_rule text.RewriteSplit x (e ∷ []) p k h = divided e k h
  of_rule text.Smt x hints p k h =
      let y = given_bind (all_hinted ds q hints) (λ (fs : List Term). given (rule.Smt fs)) k h in other (rule.Smt y.0) k tt y.2
  of_rule text.Linear x hs p k h =
      let y = given_bind (multiples ds q hs) (λ (ms : List Multiple). given (rule.Linear ms)) k h in other (rule.Linear y.0) k tt y.2
  of_rule text.Name x [] p k h = other (rule.Ambient (conclusion.Introduce x)) k tt h
  of_rule text.Memory x (n ∷ []) p k h = other (rule.Ambient (conclusion.IntroduceMemory (text_of n))) k tt h
  of_rule text.Drop x [] p k h = other (rule.Ambient conclusion.Discard) k tt h
  of_rule text.BothPatterns x ps p k h = other (rule.Ambient conclusion.Unpack) k tt h
  of_rule text.EitherPattern x ps p k h = other (rule.Ambient conclusion.Branch) k tt h
  of_rule text.Witness x (e ∷ []) p k h =
      let y = given_bind (witness_rule ds q e) (λ (a : AmbientRule). given (rule.Ambient a)) k h in other (rule.Ambient y.0) k tt y.2
  of_rule text.TrivialPattern x [] p k h = other (rule.Ambient conclusion.Trivial) k tt h
  of_rule text.SmtPattern x [] p k h = other (rule.Smt []) k tt h
  of_rule text.Swap x (b ∷ n ∷ d ∷ []) p k h = of_passing P (λ a t. others (rule.Transform a t) tt) (acts (parts_of b)) n (head_of d) (parts_of d) p k h
  of_rule text.PositionStep x (b ∷ n ∷ []) p k h = of_placed P (λ a t. others (rule.Transform a t) tt) x (acts (parts_of b)) (position n) p k h
  of_rule _ x _ p k h = absurd (not_given _ _ k h)

  -- a step by its parts
  pub of_step : (n : Node) (s : Step) → step_given ds q n ≡ given s → P s.rule
  unfolding step_given
  of_step n s h =
      let x = given_bind (typed_rule ds q (head_of n) (text_of n) (parts_of n) (place_of n)) (λ (k : Rule). given (record { rule = k; place = place_of n })) s h in
      subst P (ap (λ (z : Step). z.rule) (given_is (record { rule = x.0; place = place_of n }) s x.2)) (of_rule (head_of n) (text_of n) (parts_of n) (place_of n) x.0 x.1)
