-- `transitivity` is sound.
use Rattle.std.proofs.Common.{◌≡◌, List, Option, Some, None, refl, sym, subst}
use Rattle.gb_core.specs.declared.refusal.Why.TheVariants.{Shape}
use Rattle.gb_terms.specs.declared.decl.TypedName.{TypedName}
use Rattle.gb_terms.specs.declared.module.ProcRef.{ProcRef}
use Rattle.gb_terms.specs.declared.term.Term.{Term}
use Rattle.gb_terms.specs.declared.term.Head.TheVariants.{Proc}
use Rattle.gb_dist.proofs.Basic.{coupling_weakening}
use Rattle.gb_dist.proofs.Gluing.{coupling_gluing}
use Rattle.gb_meaning.specs.Memory.{Memory}
use Rattle.gb_meaning.specs.State.{between}
use Rattle.gb_meaning.specs.Judgments.{IsTrueUnder}
use Rattle.gb_laws.proofs.Fair.{memory_discrete, subject_positive}
use Rattle.gb_goal.specs.Goal.Code.{body, procedure}
use Rattle.gb_goal.specs.Goal.Goal.{hoare, phoare, equiv, ambient}
use Rattle.gb_typing.specs.Context.{Context, Frame, with_sides}
use Rattle.gb_typing.specs.Context as context
use Rattle.gb_typing.specs.Modules.{ProcedureType}
use Rattle.gb_typing.specs.Typing.{IsThere, IsForm, before, after}
use Rattle.gb_typing.specs.Forms.{implies_form}
use Rattle.gb_typing.specs.Goals.{IsGoalOver}
use Rattle.gb_typing.specs.Meaning.{run_of, denominator_of}
use Rattle.gb_typing.specs.Rules.{outermost, IsSoundRule}
use Rattle.gb_typing.proofs.Ambient.{pair_typed, pair_meaning}
use Rattle.gb_typing.proofs.Forms.{implies_typed, implies_use}
use Rattle.gb_typing.proofs.Given.{AreSound, refused_given, sound_given}
use Rattle.gb_typing.proofs.Sound.{procedures_sound}
use Rattle.gb_steps.specs.declared.step.Between.{Between}
use Rattle.gb_forms.specs.Between.{some_between}
use Rattle.gb_equiv.specs.Transitivity.{every_between, through, transitivity_row, IsBetween, IsTypedBetween}
use Rattle.gb_equiv.proofs.MemoryBetween.{some_typed, every_typed, some_use, every_use}

-- a procedure that is there has parameters and a result
there_before : (o : Option ProcedureType) → IsThere o → (ls : List TypedName) × (before o ≡ Some ls)
there_before None w = absurd w
there_before (Some p) w = (p.params, refl)

there_after : (o : Option ProcedureType) → IsThere o → (ls : List TypedName) × (after o ≡ Some ls)
there_after None w = absurd w
there_after (Some p) w = (_, refl)

module _ (b : Context) (ls rs : List TypedName) (t : Between) (f h : ProcRef) (p q : Term)
    (w : IsGoalOver (outermost b) ls rs (equiv (procedure f) (procedure h) p q)) (y : IsBetween (outermost b) t f h) where
  abbrev c : Context
  c = outermost b

  abbrev L : Frame
  L = before (context.procedure c f)

  abbrev R : Frame
  R = before (context.procedure c h)

  abbrev M : Frame
  M = before (context.procedure c t.procedure)

  abbrev L' : Frame
  L' = after (context.procedure c f)

  abbrev R' : Frame
  R' = after (context.procedure c h)

  abbrev M' : Frame
  M' = after (context.procedure c t.procedure)

  first_typed : IsForm (with_sides c L R) (implies_form p (some_between t.left_pre t.right_pre))
  first_typed =
      let m = there_before (context.procedure c t.procedure) y.there in
      implies_typed (with_sides c L R) p (some_between t.left_pre t.right_pre) w.3 (some_typed b L R M m.0 m.1 t.left_pre t.right_pre y.left_pre y.right_pre)

  second_typed : IsForm (with_sides c L' R') (every_between t.left_post t.right_post q)
  second_typed =
      let m = there_after (context.procedure c t.procedure) y.there in every_typed b L' R' M' m.0 m.1 t.left_post t.right_post y.left_post y.right_post q w.4

  through_sound : AreSound c (equiv (procedure f) (procedure h) p q) (through t (procedure f) (procedure h) p q)
  through_sound =
      let l = there_before (context.procedure c f) w.1 in
      let r = there_before (context.procedure c h) w.2 in
      let k = there_after (context.procedure c f) w.1 in
      let n = there_after (context.procedure c h) w.2 in (
        (
          (ls, rs, pair_typed c refl L R l.0 r.0 l.1 r.1 (implies_form p (some_between t.left_pre t.right_pre)) first_typed),
          (
            (ls, rs, pair_typed c refl L' R' k.0 n.0 k.1 n.1 (every_between t.left_post t.right_post q) second_typed),
            ((ls, rs, (tt, w.1, y.there, y.left_pre, y.left_post)), ((ls, rs, (tt, y.there, w.2, y.right_pre, y.right_post)), tt)),
          ),
        ),
        λ g fits j fair s fit x m o z.
            let e = some_use b g fits j fair s L R M t.left_pre t.right_pre y.left_pre y.right_pre m o
            (implies_use g j p (some_between t.left_pre t.right_pre) (between s m o)
            (pair_meaning c refl L R l.0 r.0 l.1 r.1 (implies_form p (some_between t.left_pre t.right_pre)) first_typed g fits j fair s x.0 m o) z) in
            coupling_weakening {Q = λ a d. (v : Memory) × IsTrueUnder g j t.left_post (between s a v) × IsTrueUnder g j t.right_post (between s v d)} {R = λ a d. IsTrueUnder g j q (between s a d)}
            (λ a d u. every_use b g fits j fair s L' R' M' t.left_post t.right_post y.left_post y.right_post a d q w.4
            (pair_meaning c refl L' R' k.0 n.0 k.1 n.1 (every_between t.left_post t.right_post q) second_typed g fits j fair s x.1.0 a d) u.0 u.1 u.2)
            (coupling_gluing memory_discrete (λ a v. IsTrueUnder g j t.left_post (between s a v)) (λ v d. IsTrueUnder g j t.right_post (between s v d))
            {l1 = run_of g s (procedure f) m} {k1 = denominator_of g (procedure f)} {l2 = run_of g s (procedure t.procedure) e.0} {k2 = denominator_of g (procedure t.procedure)}
            {l3 = run_of g s (procedure h) o} {k3 = denominator_of g (procedure h)}
            (subject_positive g (Proc t.procedure) (procedures_sound c g fits t.procedure y.there)) (x.1.1.0 m e.0 e.1) (x.1.1.1.0 e.0 o e.2)),
      )

module _ (c : Context) (t : Between) where
  pub sound : IsSoundRule c (transitivity_row t) (IsTypedBetween c t)
  sound outer ls rs (equiv (procedure f) (procedure h) p q) w y Gs e =
      let G = equiv (procedure f) (procedure h) p q in
      sound_given c G (through t (procedure f) (procedure h) p q) Gs
      (subst (λ c. AreSound c G (through t (procedure f) (procedure h) p q)) (sym outer)
      (through_sound c ls rs t f h p q (subst (λ c. IsGoalOver c ls rs G) outer w) (subst (λ c. IsBetween c t f h) outer y))) e
  sound outer ls rs (equiv (body is) d p q) w y Gs e = refused_given Shape Gs e
  sound outer ls rs (equiv (procedure f) (body js) p q) w y Gs e = refused_given Shape Gs e
  sound outer ls rs (hoare d p q) w y Gs e = refused_given Shape Gs e
  sound outer ls rs (phoare d o p q r) w y Gs e = refused_given Shape Gs e
  sound outer ls rs (ambient f) w y Gs e = refused_given Shape Gs e
