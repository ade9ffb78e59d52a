-- What `conseq` says anew is typed over the memories before and after what a judgment speaks of.
use Rattle.std.proofs.Common.{◌≡◌, List, [], ◌∷◌, Option, Some, None, refl, ap, sym, ◌∙◌, subst}
use Rattle.std.proofs.lemmas.Option.{none-some}
use Rattle.gb_core.specs.declared.ty.Ty.TheVariants as ty
use Rattle.gb_terms.specs.declared.decl.TypedName.{TypedName}
use Rattle.gb_terms.specs.declared.module.ProcRef.{ProcRef}
use Rattle.gb_terms.specs.declared.op.Side.{Side}
use Rattle.gb_terms.specs.declared.op.Side.TheVariants as side
use Rattle.gb_terms.specs.declared.term.Term.{Term}
use Rattle.gb_goal.specs.Scope as scope
use Rattle.gb_goal.specs.Interfaces.{procedure_type}
use Rattle.gb_goal.specs.Goal.{Code, Goal, goal_of}
use Rattle.gb_goal.specs.Goal.Code.{body, procedure as of_procedure}
use Rattle.gb_goal.specs.Goal.Goal.{hoare, phoare, equiv, ambient}
use Rattle.gb_goal.specs.declared.sequent.Sequent.{Sequent}
use Rattle.gb_goal.specs.Answers.Answer.{given}
use Rattle.gb_steps.specs.declared.step.Acts.{Acts}
use Rattle.gb_steps.specs.declared.step.Acts.TheVariants as on
use Rattle.gb_steps.specs.declared.step.BodyRule.{BodyRule}
use Rattle.gb_steps.specs.declared.step.BodyRule.TheVariants as on_bodies
use Rattle.gb_steps.specs.declared.step.Rule.TheVariants as rule
use Rattle.gb_script.specs.declared.tree.Node.{Node}
use Rattle.gb_meaning.specs.Declared.{declared}
use Rattle.gb_typing.specs.Modules.{ProcedureType}
use Rattle.gb_typing.specs.Context.{Context, Frame, procedure, with_own, with_sides}
use Rattle.gb_typing.specs.Typing.{IsFrame, IsThere, IsTyped, IsForm, before, after}
use Rattle.gb_typing.specs.Scopes.{context_of, IsTypedScope}
use Rattle.gb_typing.specs.Sequents.{of_sequent, IsTypedSequent}
use Rattle.gb_typing.specs.Rules.{outermost}
use Rattle.gb_typing.specs.Goals.{IsCode, IsGoalOver, frame_before, frame_after}
use Rattle.gb_typing.proofs.Lifted.{sequent_outermost}
use Rattle.gb_names.specs.Environment.{Environment, ambient as outside, relational, unary}
use Rattle.gb_elab.specs.Forms.{elaborated}
use Rattle.gb_elab_mod.specs.Occurring.{read_locals}
use Rattle.gb_elab_mod.specs.OnPrograms.{params_if, result_if, locals_before, locals_after, term_if, said_anew, conseq_of, conseq_rule}
use Rattle.gb_bodies.specs.Conseq.{IsCondition, IsBound}
use Rattle.gb_bodies.specs.Rows.{IsTypedRule}
use Rattle.gb_elab_laws.specs.Fitting.{AreIn, IsFitting, of_each_module}
use Rattle.gb_elab_laws.specs.Reading.{StandIn}
use Rattle.gb_elab_laws.proofs.Ends.{occurring_in}
use Rattle.gb_elab_laws.proofs.Fits.{goal_fits}
use Rattle.gb_elab_laws.proofs.Forms.{elaborated_typed}
use Rattle.gb_elab_laws.proofs.Given.{given_bind, given_is}
use Rattle.gb_elab_laws.proofs.Judged.{params_in, result_in, condition as conditions}
use Rattle.gb_elab_laws.proofs.Occurring.{reads_stand}
use Rattle.gb_elab_laws.proofs.OneProcedure.{condition}

-- no locals, of a memory that there is
pub no_locals : (F : Frame) → IsFrame F → AreIn of_each_module F []
no_locals F m = record { memory = m; there = λ x u e. absurd (none-some u e); finite = tt }

memory_before : (o : Option ProcedureType) → IsThere o → IsFrame (before o)
memory_before (Some t) h = tt
memory_before None h = absurd h

memory_after : (o : Option ProcedureType) → IsThere o → IsFrame (after o)
memory_after (Some t) h = tt
memory_after None h = absurd h

condition_if : (c : Context) (at : Environment) → IsFitting of_each_module c at [] → (ns : List Node) (o : Option Term) → term_if at ty.Bool ns ≡ given o → IsCondition c o
condition_if c at fits [] o h = subst (IsCondition c) {x = None} (given_is None o h) tt
condition_if c at fits (n ∷ ns) o h =
    let f = given_bind (elaborated n at [] (Some ty.Bool)) (λ (f : Term). given (Some f)) o h in
    let e = elaborated_typed n c at [] fits (Some ty.Bool) tt f.0 f.1 in
    subst (IsCondition c) {x = Some f.0} (given_is (Some f.0) o f.2) (record { typed = e.typed; truth = e.wanted })

module _ (ds : scope.Declarations) (scoped : IsTypedScope (declared ds)) (q : Sequent) (t : IsTypedSequent (context_of (declared ds)) q) (ls rs : List TypedName) where
  abbrev here : Context
  here = of_sequent (context_of (declared ds)) q t.frames

  pub fits : IsFitting of_each_module here (outside ds q) []
  fits = goal_fits ds scoped q t

  -- a bound reads none of the memories of a judgment
  bound_if : (ns : List Node) (o : Option Term) → term_if (outside ds q) ty.Real ns ≡ given o → IsBound here o
  bound_if [] o h = subst (IsBound here) {x = None} (given_is None o h) tt
  bound_if (n ∷ ns) o h =
      let f = given_bind (elaborated n (outside ds q) [] (Some ty.Real)) (λ (f : Term). given (Some f)) o h in
      let e = elaborated_typed n here (outside ds q) [] fits (Some ty.Real) tt f.0 f.1 in
      let outer : here ≡ outermost here = sequent_outermost (declared ds) q t.frames in
      subst (IsBound here) {x = Some f.0} (given_is (Some f.0) o f.2) (subst (λ d. IsTyped d f.0) (outer ∙ sym (ap (λ d. with_own d None) outer)) e.typed, e.wanted)

  -- the locals of a memory
  pub params_stand : (f : ProcRef) → IsThere (procedure here f) → (o : Option ProcedureType) → procedure_type ds None f ≡ o → AreIn of_each_module (before (procedure here f)) (params_if o)
  params_stand f h None e = no_locals (before (procedure here f)) (memory_before (procedure here f) h)
  params_stand f h (Some a) e = params_in (procedure here f) a (fits.procedures refl f a e)

  pub result_stands : (f : ProcRef) → IsThere (procedure here f) → (o : Option ProcedureType) → procedure_type ds None f ≡ o → AreIn of_each_module (after (procedure here f)) (result_if o)
  result_stands f h None e = no_locals (after (procedure here f)) (memory_after (procedure here f) h)
  result_stands f h (Some a) e = result_in (procedure here f) a (fits.procedures refl f a e)

  stand_before : (ms : List TypedName) (a : Code) → IsCode here ms a → (p g : Term) (r : Side) → StandIn (frame_before here ms a) (read_locals p r) → StandIn (frame_after here ms a) (read_locals g r) →
      AreIn of_each_module (frame_before here ms a) (locals_before ds p g r a)
  stand_before ms (body is) w p g r k l = occurring_in ms here ds (fits.procedures refl) r p g is k l w
  stand_before ms (of_procedure f) w p g r k l = params_stand f w (procedure_type ds None f) refl

  stand_after : (ms : List TypedName) (a : Code) → IsCode here ms a → (p g : Term) (r : Side) → StandIn (frame_before here ms a) (read_locals p r) → StandIn (frame_after here ms a) (read_locals g r) →
      AreIn of_each_module (frame_after here ms a) (locals_after ds p g r a)
  stand_after ms (body is) w p g r k l = occurring_in ms here ds (fits.procedures refl) r p g is k l w
  stand_after ms (of_procedure f) w p g r k l = result_stands f w (procedure_type ds None f) refl

  abbrev Typed : Goal → BodyRule → Type 0
  Typed G r = IsTypedRule here (rule.OnBodies r) ls rs G

  -- what is said anew at a judgment whose conditions are said of these contexts
  module _ (G : Goal) (A B : Context) (C D : Environment) (u : IsFitting of_each_module A C []) (v : IsFitting of_each_module B D [])
      (typed : (f h b : Option Term) → IsCondition A f → IsCondition B h → IsBound here b → Typed G (on_bodies.Conseq (record { pre = f; post = h; bound = b }))) where
    anew_typed : (fs hs bs : List Node) (r : BodyRule) → said_anew C D (outside ds q) fs hs bs ≡ given r → Typed G r
    anew_typed fs hs bs r k =
        let x = given_bind (term_if C ty.Bool fs) _ r k in
        let y = given_bind (term_if D ty.Bool hs) _ r x.2 in
        let z = given_bind (term_if (outside ds q) ty.Real bs) (λ (b : Option Term). given (on_bodies.Conseq (record { pre = x.0; post = y.0; bound = b }))) r y.2 in
        subst (Typed G) {x = on_bodies.Conseq (record { pre = x.0; post = y.0; bound = z.0 })} (given_is (on_bodies.Conseq (record { pre = x.0; post = y.0; bound = z.0 })) r z.2)
        (typed x.0 y.0 z.0 (condition_if A C u fs x.0 x.1) (condition_if B D v hs y.0 y.1) (bound_if bs z.0 z.1))

  one_fits_before : (a : Code) (p g : Term) → IsCode here ls a → IsForm (with_own here (frame_before here ls a)) p → IsForm (with_own here (frame_after here ls a)) g →
      IsFitting of_each_module (with_own here (frame_before here ls a)) (unary ds q (locals_before ds p g side.Own a)) []
  one_fits_before a p g w x y =
      condition here (outside ds q) [] fits refl (frame_before here ls a) (locals_before ds p g side.Own a)
      (stand_before ls a w p g side.Own (reads_stand (with_own here (frame_before here ls a)) p x.typed side.Own tt) (reads_stand (with_own here (frame_after here ls a)) g y.typed side.Own tt))

  one_fits_after : (a : Code) (p g : Term) → IsCode here ls a → IsForm (with_own here (frame_before here ls a)) p → IsForm (with_own here (frame_after here ls a)) g →
      IsFitting of_each_module (with_own here (frame_after here ls a)) (unary ds q (locals_after ds p g side.Own a)) []
  one_fits_after a p g w x y =
      condition here (outside ds q) [] fits refl (frame_after here ls a) (locals_after ds p g side.Own a)
      (stand_after ls a w p g side.Own (reads_stand (with_own here (frame_before here ls a)) p x.typed side.Own tt) (reads_stand (with_own here (frame_after here ls a)) g y.typed side.Own tt))

  conseq_typed : (G : Goal) → IsGoalOver here ls rs G → (fs hs bs : List Node) (r : BodyRule) → conseq_of ds q G fs hs bs ≡ given r → Typed G r
  unfolding conseq_of
  conseq_typed (hoare a p g) w fs hs bs r k =
      anew_typed (hoare a p g) (with_own here (frame_before here ls a)) (with_own here (frame_after here ls a)) (unary ds q (locals_before ds p g side.Own a)) (unary ds q (locals_after ds p g side.Own a))
      (one_fits_before a p g w.0 w.1 w.2) (one_fits_after a p g w.0 w.1 w.2) (λ f h b x y z. (x, y)) fs hs bs r k
  conseq_typed (phoare a o p g b) w fs hs bs r k =
      anew_typed (phoare a o p g b) (with_own here (frame_before here ls a)) (with_own here (frame_after here ls a)) (unary ds q (locals_before ds p g side.Own a)) (unary ds q (locals_after ds p g side.Own a))
      (one_fits_before a p g w.0 w.1 w.2) (one_fits_after a p g w.0 w.1 w.2) (λ f h b x y z. (x, y, z)) fs hs bs r k
  conseq_typed (equiv a d p g) w fs hs bs r k =
      let F = frame_before here ls a in
      let G = frame_before here rs d in
      let H = frame_after here ls a in
      let K = frame_after here rs d in
      let lp = reads_stand (with_sides here F G) p w.3.typed side.Left tt in
      let lg = reads_stand (with_sides here H K) g w.4.typed side.Left tt in
      let rp = reads_stand (with_sides here F G) p w.3.typed side.Right tt in
      let rg = reads_stand (with_sides here H K) g w.4.typed side.Right tt in
      anew_typed (equiv a d p g) (with_sides here F G) (with_sides here H K)
      (relational ds q (locals_before ds p g side.Left a) (locals_before ds p g side.Right d)) (relational ds q (locals_after ds p g side.Left a) (locals_after ds p g side.Right d))
      (conditions here (outside ds q) [] fits refl F G (locals_before ds p g side.Left a) (locals_before ds p g side.Right d)
      (stand_before ls a w.1 p g side.Left lp lg) (stand_before rs d w.2 p g side.Right rp rg))
      (conditions here (outside ds q) [] fits refl H K (locals_after ds p g side.Left a) (locals_after ds p g side.Right d)
      (stand_after ls a w.1 p g side.Left lp lg) (stand_after rs d w.2 p g side.Right rp rg))
      (λ f h b x y z. (x, y)) fs hs bs r k
  conseq_typed (ambient f) w fs hs bs r k = subst (Typed (ambient f)) (given_is on_bodies.Unfit r k) tt

  pub conseq_rule_typed : (G : Goal) → IsGoalOver here ls rs G → goal_of q.conclusion ≡ G → (a : Acts) (fs hs bs : List Node) (r : BodyRule) → conseq_rule ds q a fs hs bs ≡ given r → Typed G r
  conseq_rule_typed G w e on.All fs hs bs r k = conseq_typed G w fs hs bs r (sym (ap (λ g. conseq_of ds q g fs hs bs) e) ∙ k)
  conseq_rule_typed G w e on.Left fs hs bs r k = subst (Typed G) (given_is on_bodies.Unfit r k) tt
  conseq_rule_typed G w e on.Right fs hs bs r k = subst (Typed G) (given_is on_bodies.Unfit r k) tt
