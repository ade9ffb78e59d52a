-- Judgments of one procedure are typed.
use Rattle.std.proofs.lemmas.Bool.{false≢true}
use Rattle.std.proofs.Common.{◌≡◌, pos, true, List, [], ◌∷◌, Some, None, refl, sym, ◌∙◌, subst, Bool}
use Rattle.gb_core.specs.declared.place.Place.{Place}
use Rattle.gb_core.specs.declared.ty.Ty.TheVariants as ty
use Rattle.gb_terms.specs.declared.decl.TypedName.{TypedName}
use Rattle.gb_meaning.specs.Names.{Name}
use Rattle.gb_names.specs.declared.bindings.Binding.{Binding}
use Rattle.gb_terms.specs.declared.module.ProcRef.{ProcRef}
use Rattle.gb_terms.specs.declared.op.Op.TheVariants as op
use Rattle.gb_terms.specs.declared.op.Rel.{Rel}
use Rattle.gb_terms.specs.declared.op.Rel.TheVariants as rel
use Rattle.gb_terms.specs.declared.term.Term.{Term}
use Rattle.gb_terms.specs.declared.term.Head.TheVariants.{Hoare, Phoare, Whole, Proc as procedure_subject}
use Rattle.gb_terms.specs.Make.{node, truth_literal}
use Rattle.gb_goal.specs.Answers.Answer.{given}
use Rattle.gb_goal.specs.Interfaces.{ProcedureType, procedure_type}
use Rattle.gb_script.specs.declared.tree.Node.{Node}
use Rattle.gb_names.specs.Allowed.{has_judgments}
use Rattle.gb_names.specs.declared.setting.Language.TheVariants.{Formula}
use Rattle.gb_names.specs.Environment.{Environment, in_judgments, reading, unary}
use Rattle.gb_names.specs.Judgments.{one_procedure, result_of}
use Rattle.gb_elab.specs.declared.contract.Contract.{Contract}
use Rattle.gb_elab.specs.OneProcedure.{after_one, always, around, before_one, ends, lossless, one, with_chance}
use Rattle.gb_typing.specs.Context.{Frame, Context, procedure, with_own}
use Rattle.gb_typing.specs.Typing.{IsThere, before, after}
use Rattle.gb_typing.proofs.Made.{made_node}
use Rattle.gb_elab_laws.specs.Fitting.{AreIn, IsTypeOf, IsFitting, IsGiven}
use Rattle.gb_elab_laws.proofs.Given.{given_bind, given_is, not_given}
use Rattle.gb_elab_laws.proofs.Judged.{judging, known_there, one_is, params_in, result_in}
use Rattle.gb_elab_laws.proofs.Leaves.{truth_typed}
use Rattle.gb_elab_laws.proofs.Remembered.{remembering}
use Rattle.gb_elab_laws.proofs.Typed.{apart_node, Typed, given_from, leaf, operated}

-- A contract of a procedure that there is, with typed conditions.
pub record IsContract (globs : Name → Bool) (c : Context) (k : Contract) : Type 0 where
  pub there : IsThere (procedure c k.procedure)
  pub pre : IsGiven globs (with_own c (before (procedure c k.procedure))) Formula (Some ty.Bool) k.pre
  pub post : IsGiven globs (with_own c (after (procedure c k.procedure))) Formula (Some ty.Bool) k.post

-- `1%r`
one_typed : {globs : Name → Bool} (c : Context) → Typed globs c Formula ty.Real one
one_typed c =
    operated c Formula op.ToReal ty.Int ty.Real (node (Whole (pos 1)) [] ty.Int) tt (tt, refl)
    (leaf c Formula (Whole (pos 1)) ty.Int tt refl tt tt (λ e. tt))

module _ {globs : Name → Bool} (c : Context) (at : Environment) (vs : List Binding) (fit : IsFitting globs c at vs) (judges : has_judgments at.language ≡ true) where
  -- a condition on one program over these variables
  pub condition : (F : Frame) (ls : List TypedName) → AreIn globs F ls → IsFitting globs (with_own c F) (reading (in_judgments at.memories) (unary at.declared at.sequent ls)) vs
  condition F ls h = record {
    logical = fit.logical;
    values = fit.values;
    bound = fit.bound;
    variables = (refl, h);
    declared = fit.declared;
    around = tt;
    globals = λ e. fit.globals (judging at.language judges);
    outside = λ e. refl;
    procedures = λ e. fit.procedures judges;
    memories = λ e. fit.memories (remembering at.language judges);
    locals = λ e. fit.locals (remembering at.language judges);
    frames = λ e. fit.frames (remembering at.language judges);
    sides = λ e. refl;
    together = λ e. fit.together (remembering at.language judges);
    stand = λ e. fit.stand (remembering at.language judges);
  }

  -- a bound
  pub around_fits : IsFitting globs (with_own c None) (around at) vs
  around_fits = record {
    logical = fit.logical;
    values = fit.values;
    bound = fit.bound;
    variables = tt;
    declared = fit.declared;
    around = tt;
    globals = λ e. fit.globals (judging at.language judges);
    outside = λ e. refl;
    procedures = λ e. fit.procedures judges;
    memories = λ e. fit.memories (remembering at.language judges);
    locals = λ e. fit.locals (remembering at.language judges);
    frames = λ e. fit.frames (remembering at.language judges);
    sides = λ e. refl;
    together = λ e. fit.together (remembering at.language judges);
    stand = λ e. fit.stand (remembering at.language judges);
  }

  pub always_typed : (k : Contract) → IsContract globs c k → Typed globs c at.language ty.Bool (always k)
  always_typed k h = record {
    made =
        made_node c (Hoare (procedure_subject k.procedure)) (ty.Bool ∷ ty.Bool ∷ []) (k.pre ∷ k.post ∷ []) ty.Bool (refl, (refl, (refl, tt))) h.there []
        (record { typed = h.pre.typed; written = h.pre.wanted }, record { typed = h.post.typed; written = h.post.wanted });
    type = tt;
    apart = apart_node globs (Hoare (procedure_subject k.procedure)) (k.pre ∷ k.post ∷ []) ty.Bool tt (h.pre.apart, (h.post.apart, tt));
    plain = λ e. absurd (false≢true (sym e ∙ judges));
  }

  pub with_chance_typed : (k : Contract) (r : Rel) (b : Term) → IsContract globs c k → IsGiven globs (with_own c None) Formula (Some ty.Real) b → Typed globs c at.language ty.Bool (with_chance k r b)
  with_chance_typed k r b h g = record {
    made =
        made_node c (Phoare (procedure_subject k.procedure) r) (ty.Bool ∷ ty.Bool ∷ ty.Real ∷ []) (k.pre ∷ k.post ∷ b ∷ []) ty.Bool ((refl, (refl, (refl, tt))), refl) h.there []
        (record { typed = h.pre.typed; written = h.pre.wanted }, (record { typed = h.post.typed; written = h.post.wanted }, record { typed = g.typed; written = g.wanted }));
    type = tt;
    apart = apart_node globs (Phoare (procedure_subject k.procedure) r) (k.pre ∷ k.post ∷ b ∷ []) ty.Bool tt (h.pre.apart, (h.post.apart, (g.apart, tt)));
    plain = λ e. absurd (false≢true (sym e ∙ judges));
  }

  module _ (f : ProcRef) (a : ProcedureType) (e : procedure_type at.declared at.inside f ≡ Some a) where
    known : IsTypeOf (procedure c f) a
    known = known_there c at vs fit judges f a e

    pub is_there : IsThere (procedure c f)
    is_there = subst IsThere (sym known.there) tt

    -- the environments of the conditions fit
    pub before_fits : IsFitting globs (with_own c (before (procedure c f))) (before_one at a) vs
    before_fits = condition _ a.params (params_in _ a known)

    pub after_fits : IsFitting globs (with_own c (after (procedure c f))) (after_one at a) vs
    after_fits = condition _ (result_of a) (result_in _ a known)

    ends_typed : Typed globs c at.language ty.Bool (ends f)
    ends_typed =
        let d = with_own c (before (procedure c f)) in
        let g = with_own c (after (procedure c f)) in
        let contract : IsContract globs c (record { procedure = f; pre = truth_literal true; post = truth_literal true }) =
        record {
          there = is_there;
          pre = given_from d Formula (Some ty.Bool) ty.Bool (truth_literal true) (truth_typed d (before_one at a) vs before_fits true) refl;
          post = given_from g Formula (Some ty.Bool) ty.Bool (truth_literal true) (truth_typed g (after_one at a) vs after_fits true) refl;
        } in
        with_chance_typed (record { procedure = f; pre = truth_literal true; post = truth_literal true }) rel.Equal one contract
        (given_from (with_own c None) Formula (Some ty.Real) ty.Real one (one_typed (with_own c None)) refl)

  pub lossless_typed : (ns : List Node) (p : Place) (u : Term) → lossless at vs ns p ≡ given u → Typed globs c at.language ty.Bool u
  lossless_typed (f ∷ []) p u h =
      let m = given_bind (one_procedure at vs f p) (λ m. given (ends m.0)) u h in
      subst (Typed globs c at.language ty.Bool) {x = ends m.0.0} (given_is (ends m.0.0) u m.2) (ends_typed m.0.0 m.0.1 (one_is at vs f p m.0 m.1))
  lossless_typed _ p u h = absurd (not_given _ _ u h)
