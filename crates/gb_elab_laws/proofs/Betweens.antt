-- What typing makes of `transitivity`.
use Rattle.std.proofs.Common.{◌≡◌, ◌-◌, List, [], ◌∷◌, length, take, drop, Option, Some, None, refl, subst, sym}
use Rattle.gb_core.specs.declared.place.Place.{Place}
use Rattle.gb_core.specs.declared.ty.Ty.TheVariants as ty
use Rattle.gb_terms.specs.declared.decl.TypedName.{TypedName}
use Rattle.gb_terms.specs.declared.module.ProcRef.{ProcRef}
use Rattle.gb_terms.specs.declared.term.Term.{Term}
use Rattle.gb_goal.specs.Scope as scope
use Rattle.gb_goal.specs.Interfaces.{procedure_type}
use Rattle.gb_goal.specs.Goal.{Goal, goal_of}
use Rattle.gb_goal.specs.Goal.Code.{body, procedure as of_procedure}
use Rattle.gb_goal.specs.Goal.Goal.{hoare, phoare, equiv, ambient as other_form}
use Rattle.gb_goal.specs.declared.sequent.Sequent.{Sequent}
use Rattle.gb_goal.specs.Answers.{Answer}
use Rattle.gb_goal.specs.Answers.Answer.{given}
use Rattle.gb_steps.specs.declared.step.Acts.{Acts}
use Rattle.gb_steps.specs.declared.step.Acts.TheVariants as on
use Rattle.gb_steps.specs.declared.step.Between.{Between}
use Rattle.gb_steps.specs.declared.step.BodyRule.TheVariants as on_bodies
use Rattle.gb_steps.specs.declared.step.RelationalRule.TheVariants as relational_rule
use Rattle.gb_steps.specs.declared.step.Rule.{Rule}
use Rattle.gb_steps.specs.declared.step.Rule.TheVariants as rule
use Rattle.gb_script.specs.declared.head.Head.{Head as Kind}
use Rattle.gb_script.specs.declared.head.Head.TheVariants as text
use Rattle.gb_script.specs.declared.tree.Node.{Node}
use Rattle.gb_script.specs.Tree.{parts_of, place_of}
use Rattle.gb_meaning.specs.Declared.{declared}
use Rattle.gb_typing.specs.Context.{Context, procedure, with_sides}
use Rattle.gb_typing.specs.Scopes.{context_of, IsTypedScope}
use Rattle.gb_typing.specs.Sequents.{of_sequent, IsTypedSequent}
use Rattle.gb_typing.specs.Typing.{IsForm, IsThere, before, after}
use Rattle.gb_typing.specs.Goals.{IsGoalOver}
use Rattle.gb_names.specs.Environment.{ambient, relational}
use Rattle.gb_names.specs.Judgments.{Named, functor_procedure, named_procedure}
use Rattle.gb_elab.specs.Forms.{elaborated}
use Rattle.gb_elab_mod.specs.OnPrograms.{Contracts, between_at, between_by, between_functor, between_of, between_words, contracts, params_if, procedures_of, related, result_if, transitive_rule}
use Rattle.gb_equiv.specs.Rows.{IsTypedRule}
use Rattle.gb_equiv.specs.Transitivity.{IsBetween}
use Rattle.gb_elab_laws.proofs.Anew.{fits, params_stand, result_stands}
use Rattle.gb_elab_laws.proofs.Fits.{goal_procedure}
use Rattle.gb_elab_laws.proofs.Forms.{elaborated_typed}
use Rattle.gb_elab_laws.proofs.Given.{given_bind, given_is, not_given}
use Rattle.gb_elab_laws.proofs.Judged.{IsKnownAs, condition as conditions, functor_is, named_is}

-- It is a step of `transitivity`, or one that fits no goal.
module _ (ds : scope.Declarations) (q : Sequent) (P : Rule → Type 0) (between : (t : Between) → P (rule.Relational (relational_rule.Transitivity t))) (unfit : P (rule.OnBodies on_bodies.Unfit)) where
  is_between : (m : Named) (a b d e : Node) (r o : ProcRef) (k : Rule) → between_of ds q m a b d e r o ≡ given k → P k
  unfolding between_of
  is_between m a b d e r o k h =
      let l = given_bind (related ds q a b r m.0) _ k h in
      let n = given_bind (related ds q d e m.0 o)
      (λ (n : Term × Term). given (rule.Relational (relational_rule.Transitivity (record { procedure = m.0; left_pre = l.0.0; left_post = l.0.1; right_pre = n.0; right_post = n.1 })))) k l.2 in
      subst P (given_is _ k n.2) (between _)

  fits_none : (k : Rule) → given (rule.OnBodies on_bodies.Unfit) ≡ given k → P k
  fits_none k h = subst P (given_is (rule.OnBodies on_bodies.Unfit) k h) unfit

  by_contracts : (a : Answer Named) (c : Option Contracts) (o : Option (ProcRef × ProcRef)) (p : Place) (k : Rule) → between_by ds q a c o p ≡ given k → P k
  by_contracts a None o p k h = absurd (not_given _ _ k h)
  by_contracts a (Some c) None p k h = fits_none k h
  by_contracts a (Some c) (Some z) p k h =
      let m = given_bind a (λ (m : Named). between_of ds q m c.0.0 c.0.1 c.1.0 c.1.1 z.0 z.1) k h in is_between m.0 c.0.0 c.0.1 c.1.0 c.1.1 z.0 z.1 k m.2

  by_words : (xs ns : List Node) (p : Place) (k : Rule) → between_words ds q xs ns p ≡ given k → P k
  by_words (x ∷ xs) (a ∷ b ∷ n ∷ []) p k h =
      by_contracts (named_procedure (ambient ds q) [] text.ProcedurePath (x ∷ xs) (place_of x)) (contracts (a ∷ b ∷ []) (parts_of n)) (procedures_of (goal_of q.conclusion)) p k h
  by_words _ _ p k h = absurd (not_given _ _ k h)

  by_functor : (xs ns : List Node) (p : Place) (k : Rule) → between_functor ds q xs ns p ≡ given k → P k
  by_functor (x ∷ xs) (m ∷ ms ∷ f ∷ c ∷ d ∷ []) p k h =
      by_contracts (functor_procedure (ambient ds q) [] x xs (m ∷ parts_of ms) f (place_of x)) (contracts (parts_of c) (parts_of d)) (procedures_of (goal_of q.conclusion)) p k h
  by_functor _ _ p k h = absurd (not_given _ _ k h)

  written : (j : Kind) (ns : List Node) (p : Place) (k : Rule) → between_at ds q j ns p ≡ given k → P k
  written text.PlainTransitivity ns p k h = by_words (take (length ns - 3) ns) (drop (length ns - 3) ns) p k h
  written text.FunctorTransitivity ns p k h = by_functor (take (length ns - 5) ns) (drop (length ns - 5) ns) p k h
  written _ _ p k h = absurd (not_given _ _ k h)

  pub of_transitive : (a : Acts) (j : Kind) (ns : List Node) (p : Place) (k : Rule) → transitive_rule ds q a j ns p ≡ given k → P k
  of_transitive on.All j ns p k h = written j ns p k h
  of_transitive on.Left j ns p k h = fits_none k h
  of_transitive on.Right j ns p k h = fits_none k h

-- The procedure between is there, and what is said of it and the others is typed over their parameters and results.
module _ (ds : scope.Declarations) (scoped : IsTypedScope (declared ds)) (q : Sequent) (t : IsTypedSequent (context_of (declared ds)) q) (ls rs : List TypedName) where
  abbrev here : Context
  here = of_sequent (context_of (declared ds)) q t.frames

  abbrev Typed : Rule → Type 0
  Typed k = IsTypedRule here k ls rs (goal_of q.conclusion)

  abbrev AreRelated : ProcRef → ProcRef → Term × Term → Type 0
  AreRelated r o u =
      IsForm (with_sides here (before (procedure here r)) (before (procedure here o))) u.0 × IsForm (with_sides here (after (procedure here r)) (after (procedure here o))) u.1

  pub related_typed : (a b : Node) (r o : ProcRef) → IsThere (procedure here r) → IsThere (procedure here o) → (u : Term × Term) → related ds q a b r o ≡ given u → AreRelated r o u
  unfolding related
  related_typed a b r o j l u h =
      let x = given_bind (elaborated a (relational ds q (params_if (procedure_type ds None r)) (params_if (procedure_type ds None o))) [] (Some ty.Bool)) _ u h in
      let y = given_bind (elaborated b (relational ds q (result_if (procedure_type ds None r)) (result_if (procedure_type ds None o))) [] (Some ty.Bool)) (λ (f : Term). given (x.0, f)) u x.2 in
      let pre =
      conditions here (ambient ds q) [] (fits ds scoped q t ls rs) refl (before (procedure here r)) (before (procedure here o)) (params_if (procedure_type ds None r)) (params_if (procedure_type ds None o))
      (params_stand ds scoped q t ls rs r j (procedure_type ds None r) refl) (params_stand ds scoped q t ls rs o l (procedure_type ds None o) refl) in
      let post =
      conditions here (ambient ds q) [] (fits ds scoped q t ls rs) refl (after (procedure here r)) (after (procedure here o)) (result_if (procedure_type ds None r)) (result_if (procedure_type ds None o))
      (result_stands ds scoped q t ls rs r j (procedure_type ds None r) refl) (result_stands ds scoped q t ls rs o l (procedure_type ds None o) refl) in
      let z =
      elaborated_typed a (with_sides here (before (procedure here r)) (before (procedure here o))) (relational ds q (params_if (procedure_type ds None r)) (params_if (procedure_type ds None o))) [] pre (Some ty.Bool) tt x.0 x.1 in
      let w =
      elaborated_typed b (with_sides here (after (procedure here r)) (after (procedure here o))) (relational ds q (result_if (procedure_type ds None r)) (result_if (procedure_type ds None o))) [] post (Some ty.Bool) tt y.0 y.1 in
      subst (AreRelated r o) (given_is (x.0, y.0) u y.2) (record { typed = z.typed; truth = z.wanted }, record { typed = w.typed; truth = w.wanted })

  -- a procedure that is named is there
  known_there : (m : Named) → IsKnownAs (ambient ds q) m → IsThere (procedure here m.0)
  known_there m e = let k = goal_procedure ds scoped q t m.0 m.1 e in subst IsThere (sym k.there) tt

  module _ (w : IsGoalOver here ls rs (goal_of q.conclusion)) where
    between_typed : (m : Named) → IsKnownAs (ambient ds q) m → (a b d e : Node) (r o : ProcRef) → IsThere (procedure here r) → IsThere (procedure here o) → (u v : Term) →
        goal_of q.conclusion ≡ equiv (of_procedure r) (of_procedure o) u v → (k : Rule) → between_of ds q m a b d e r o ≡ given k → Typed k
    unfolding between_of
    between_typed m known a b d e r o j l u v g k h =
        let i = known_there m known in
        let x = given_bind (related ds q a b r m.0) _ k h in
        let y = given_bind (related ds q d e m.0 o)
        (λ (n : Term × Term). given (rule.Relational (relational_rule.Transitivity (record { procedure = m.0; left_pre = x.0.0; left_post = x.0.1; right_pre = n.0; right_post = n.1 })))) k x.2 in
        let s : Between = record { procedure = m.0; left_pre = x.0.0; left_post = x.0.1; right_pre = y.0.0; right_post = y.0.1 } in
        let f = related_typed a b r m.0 j i x.0 x.1 in
        let c = related_typed d e m.0 o i l y.0 y.1 in
        let typed : IsBetween here s r o = record { there = i; left_pre = f.0; left_post = f.1; right_pre = c.0; right_post = c.1 } in
        subst Typed (given_is (rule.Relational (relational_rule.Transitivity s)) k y.2)
        (subst (IsTypedRule here (rule.Relational (relational_rule.Transitivity s)) ls rs) (sym g) typed)

    goal_typed : (a : Answer Named) → ((m : Named) → a ≡ given m → IsKnownAs (ambient ds q) m) → (c : Option Contracts) (G : Goal) → goal_of q.conclusion ≡ G → IsGoalOver here ls rs G →
        (p : Place) (k : Rule) → between_by ds q a c (procedures_of G) p ≡ given k → Typed k
    goal_typed a f None G e z p k h = absurd (not_given _ _ k h)
    goal_typed a f (Some c) (equiv (of_procedure r) (of_procedure o) u v) e z p k h =
        let m = given_bind a (λ (m : Named). between_of ds q m c.0.0 c.0.1 c.1.0 c.1.1 r o) k h in
        between_typed m.0 (f m.0 m.1) c.0.0 c.0.1 c.1.0 c.1.1 r o z.1 z.2 u v e k m.2
    goal_typed a f (Some c) (equiv (of_procedure r) (body js) u v) e z p k h = subst Typed (given_is (rule.OnBodies on_bodies.Unfit) k h) tt
    goal_typed a f (Some c) (equiv (body is) d u v) e z p k h = subst Typed (given_is (rule.OnBodies on_bodies.Unfit) k h) tt
    goal_typed a f (Some c) (hoare d u v) e z p k h = subst Typed (given_is (rule.OnBodies on_bodies.Unfit) k h) tt
    goal_typed a f (Some c) (phoare d o u v w) e z p k h = subst Typed (given_is (rule.OnBodies on_bodies.Unfit) k h) tt
    goal_typed a f (Some c) (other_form u) e z p k h = subst Typed (given_is (rule.OnBodies on_bodies.Unfit) k h) tt

    words_typed : (xs ns : List Node) (p : Place) (k : Rule) → between_words ds q xs ns p ≡ given k → Typed k
    words_typed (x ∷ xs) (a ∷ b ∷ n ∷ []) p k h =
        goal_typed (named_procedure (ambient ds q) [] text.ProcedurePath (x ∷ xs) (place_of x)) (named_is (ambient ds q) [] text.ProcedurePath (x ∷ xs) (place_of x)) (contracts (a ∷ b ∷ []) (parts_of n))
        (goal_of q.conclusion) refl w p k h
    words_typed _ _ p k h = absurd (not_given _ _ k h)

    functor_typed : (xs ns : List Node) (p : Place) (k : Rule) → between_functor ds q xs ns p ≡ given k → Typed k
    functor_typed (x ∷ xs) (m ∷ ms ∷ f ∷ c ∷ d ∷ []) p k h =
        goal_typed (functor_procedure (ambient ds q) [] x xs (m ∷ parts_of ms) f (place_of x)) (functor_is (ambient ds q) [] x xs (m ∷ parts_of ms) f (place_of x)) (contracts (parts_of c) (parts_of d))
        (goal_of q.conclusion) refl w p k h
    functor_typed _ _ p k h = absurd (not_given _ _ k h)

    written_typed : (j : Kind) (ns : List Node) (p : Place) (k : Rule) → between_at ds q j ns p ≡ given k → Typed k
    written_typed text.PlainTransitivity ns p k h = words_typed (take (length ns - 3) ns) (drop (length ns - 3) ns) p k h
    written_typed text.FunctorTransitivity ns p k h = functor_typed (take (length ns - 5) ns) (drop (length ns - 5) ns) p k h
    written_typed _ _ p k h = absurd (not_given _ _ k h)

    pub transitive_typed : (a : Acts) (j : Kind) (ns : List Node) (p : Place) (k : Rule) → transitive_rule ds q a j ns p ≡ given k → Typed k
    transitive_typed on.All j ns p k h = written_typed j ns p k h
    transitive_typed on.Left j ns p k h = subst Typed (given_is (rule.OnBodies on_bodies.Unfit) k h) tt
    transitive_typed on.Right j ns p k h = subst Typed (given_is (rule.OnBodies on_bodies.Unfit) k h) tt
