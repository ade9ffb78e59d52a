-- `proc` is sound.
use Rattle.std.proofs.Common.{◌≡◌, true, pos, List, [], ◌∷◌, Option, Some, None, refl, ap, sym, ◌∙◌, subst}
use Rattle.std.specs.List.{AllByRecursion}
use Rattle.std.specs.Option.{option_zip}
use Rattle.gb_core.specs.declared.refusal.Why.TheVariants.{Shape}
use Rattle.gb_core.specs.declared.ty.Ty.TheVariants as ty
use Rattle.gb_dist.specs.WeightedList.{weight, bit, Every}
use Rattle.gb_dist.specs.Coupling.{Coupling}
use Rattle.gb_dist.proofs.Basic.{coupling_dmap}
use Rattle.gb_dist.proofs.Entries.{Every-dmap}
use Rattle.gb_dist.proofs.Masses.{mass-dmap, mass-same}
use Rattle.gb_terms.specs.declared.decl.Proc.{Proc}
use Rattle.gb_terms.specs.declared.module.ProcRef.{ProcRef}
use Rattle.gb_terms.specs.declared.op.Rel.{Rel}
use Rattle.gb_terms.specs.declared.op.Side.TheVariants.{Own, Left, Right}
use Rattle.gb_terms.specs.declared.term.Term.{Term}
use Rattle.gb_walk.specs.Change.{term_changed}
use Rattle.gb_meaning.specs.Commands.{statements}
use Rattle.gb_meaning.specs.Program.Routine.{routine}
use Rattle.gb_meaning.specs.Setting.{Setting}
use Rattle.gb_meaning.specs.State.{at, between}
use Rattle.gb_meaning.specs.Judgments.{IsTrueUnder, speaking, den, compares}
use Rattle.gb_meaning.specs.Meanings.{fraction_in}
use Rattle.gb_meaning.specs.Terms.{val}
use Rattle.gb_meaning.specs.Written.{type_of}
use Rattle.gb_meaning.specs.Declared.{declared}
use Rattle.gb_goal.specs.declared.sequent.Sequent.{Sequent}
use Rattle.gb_goal.specs.Scope.{Declarations, procedure_of}
use Rattle.gb_goal.specs.Goal.{Goal}
use Rattle.gb_goal.specs.Goal.Code.{body, procedure}
use Rattle.gb_goal.specs.Goal.Goal.{hoare, phoare, equiv, ambient}
use Rattle.gb_goal.specs.Answers.Answer.{given}
use Rattle.gb_typing.specs.Context.{Context, with_own, with_sides}
use Rattle.gb_typing.specs.Context as context
use Rattle.gb_typing.specs.Programs.{IsProcedure, locals_of}
use Rattle.gb_typing.specs.Scopes.{context_of, IsTypedScope}
use Rattle.gb_typing.specs.Sequents.{of_sequent, IsTypedSequent}
use Rattle.gb_typing.specs.Typing.{before, after, IsTyped, IsForm}
use Rattle.gb_typing.proofs.Located.{IsTypedThere, typed_there}
use Rattle.gb_typing.proofs.LinkedProcedures.{linked_there}
use Rattle.gb_typing.specs.Calls.{start, ended, result_of, returned}
use Rattle.gb_typing.specs.Meaning.{run, run_of, denominator, denominator_of}
use Rattle.gb_typing.specs.Rules.{IsSettingOver, ImpliesIn, IsSoundRuleIn, no_arguments, outermost}
use Rattle.gb_typing.specs.Goals.{IsTypedGoal}
use Rattle.gb_typing.proofs.Called.{called_run, called_denominator}
use Rattle.gb_typing.proofs.Given.{refused_given, sound_given_in}
use Rattle.gb_typing.proofs.Parameters.{one_start_typed, one_start, two_starts_typed, two_starts}
use Rattle.gb_typing.proofs.Returned.{one_result_typed, one_result, two_results_typed, two_results}
use Rattle.gb_bodies.specs.Proc.{of_result, of_one, of_chance, of_two, proc_row}

module _ (ds : Declarations) (scoped : IsTypedScope (declared ds)) (q : Sequent) (t : IsTypedSequent (context_of (declared ds)) q) where
  abbrev c : Context
  c = of_sequent (context_of (declared ds)) q t.frames

  there : (r : ProcRef) (a : Proc) → procedure_of ds r ≡ Some a → IsTypedThere c r a
  there r a e = typed_there ds scoped q t.modules t.frames r a e

  linked : (g : Setting) → IsSettingOver (declared ds) g → (r : ProcRef) (a : Proc) → procedure_of ds r ≡ Some a → g.procedure r ≡ Some (routine a.params a.locals (statements g a.body.list) a.value)
  linked g over r a e =
      subst (λ h. h.procedure r ≡ Some (routine a.params a.locals (statements h a.body.list) a.value)) (sym over.meant)
      (linked_there ds scoped over.interpretation over.chosen r a e)

  module _ (outer : c ≡ outermost c) where
    -- One procedure.
    module _ (r : ProcRef) (a : Proc) (e : procedure_of ds r ≡ Some a) (p f : Term) (w : IsForm (with_own c (before (context.procedure c r))) p) (v : IsForm (with_own c (after (context.procedure c r))) f) where
      typed_one : IsProcedure c a
      typed_one = let k = there r a e in k.typed

      of_params : IsForm (with_own c (Some a.params)) p
      of_params = let k = there r a e in subst (λ o. IsForm (with_own c (before o)) p) k.type w

      of_result_form : IsForm (with_own c (Some (result_of a))) f
      of_result_form = let k = there r a e in subst (λ o. IsForm (with_own c (after o)) f) k.type v

      one_goal : IsTypedGoal c (hoare (body a.body.list) p (term_changed f (returned Own a ∷ [])))
      one_goal =
          (locals_of a, locals_of a, ((let k = typed_one in k.body), one_start_typed c a p of_params, one_result_typed c outer a f typed_one of_result_form))

      one_implies : ImpliesIn (declared ds) c (hoare (body a.body.list) p (term_changed f (returned Own a ∷ [])) ∷ []) (hoare (procedure r) p f)
      one_implies g fits over j fair s fit h m x =
          subst (Every (λ n. IsTrueUnder g j f (at s n))) (sym (called_run c g r a typed_one (linked g over r a e) s m))
          (Every-dmap {P = λ n. IsTrueUnder g j (term_changed f (returned Own a ∷ [])) (at s n)} (λ n. IsTrueUnder g j f (at s n)) (ended g a) (run g s a.body.list (start g a m))
          (λ n y. sym (one_result c outer g j fair s n a f fits typed_one of_result_form) ∙ y)
          (h.0 (start g a m) (sym (one_start c g fits j fair s a p of_params m) ∙ x)))

      -- with a probability
      module _ (o : Rel) (b : Term) (x : IsTyped (with_own c None) b) (y : type_of b ≡ ty.Real) where
        chance_goal : IsTypedGoal c (phoare (body a.body.list) o p (of_result a f) b)
        chance_goal =
            (locals_of a, locals_of a, ((let k = typed_one in k.body), one_start_typed c a p of_params, one_result_typed c outer a f typed_one of_result_form, x, y))

        chance_implies : ImpliesIn (declared ds) c (phoare (body a.body.list) o p (of_result a f) b ∷ []) (phoare (procedure r) o p f b)
        chance_implies g fits over j fair s fit h m z =
            let l = run g s a.body.list (start g a m) in
            let same : weight l (λ n. den g j (of_result a f) (at s n)) ≡ weight (run_of g s (procedure r) m) (λ n. den g j f (at s n)) =
            mass-same l _ _ (λ n. ap bit (one_result c outer g j fair s n a f fits typed_one of_result_form))
            ∙ sym (mass-dmap (ended g a) l (λ n. bit (den g j f (at s n))))
            ∙ ap (λ l. weight l (λ n. den g j f (at s n))) (sym (called_run c g r a typed_one (linked g over r a e) s m)) in
            let over_same : denominator g a.body.list ≡ denominator_of g (procedure r) = sym (called_denominator c g r a typed_one (linked g over r a e)) in
            subst (λ z. z) (λ i. compares o (pos (same i), over_same i) (fraction_in (val g (speaking g j) b s)) ≡ true)
            (h.0 (start g a m) (sym (one_start c g fits j fair s a p of_params m) ∙ z))

    one_sound : (r : ProcRef) (o : Option Proc) → procedure_of ds r ≡ o → (p f : Term) → IsForm (with_own c (before (context.procedure c r))) p → IsForm (with_own c (after (context.procedure c r))) f →
        (Gs : List Goal) → of_one p f o ≡ given Gs → AllByRecursion (IsTypedGoal c) Gs × ImpliesIn (declared ds) c Gs (hoare (procedure r) p f)
    one_sound r None e p f w v Gs k = refused_given Shape Gs k
    one_sound r (Some a) e p f w v Gs k = sound_given_in (declared ds) c (hoare (procedure r) p f) _ Gs ((one_goal r a e p f w v, tt), one_implies r a e p f w v) k

    chance_sound : (r : ProcRef) (o : Option Proc) → procedure_of ds r ≡ o → (l : Rel) (p f b : Term) → IsForm (with_own c (before (context.procedure c r))) p → IsForm (with_own c (after (context.procedure c r))) f →
        IsTyped (with_own c None) b → type_of b ≡ ty.Real → (Gs : List Goal) → of_chance l p f b o ≡ given Gs → AllByRecursion (IsTypedGoal c) Gs × ImpliesIn (declared ds) c Gs (phoare (procedure r) l p f b)
    chance_sound r None e l p f b w v x y Gs k = refused_given Shape Gs k
    chance_sound r (Some a) e l p f b w v x y Gs k =
        sound_given_in (declared ds) c (phoare (procedure r) l p f b) _ Gs ((chance_goal r a e p f w v l b x y, tt), chance_implies r a e p f w v l b x y) k

    -- Two procedures.
    module _ (r h : ProcRef) (a b : Proc) (e : procedure_of ds r ≡ Some a) (i : procedure_of ds h ≡ Some b) (p f : Term)
        (w : IsForm (with_sides c (before (context.procedure c r)) (before (context.procedure c h))) p) (v : IsForm (with_sides c (after (context.procedure c r)) (after (context.procedure c h))) f) where
      left_typed : IsProcedure c a
      left_typed = let k = there r a e in k.typed

      right_typed : IsProcedure c b
      right_typed = let k = there h b i in k.typed

      of_both_params : IsForm (with_sides c (Some a.params) (Some b.params)) p
      of_both_params =
          let k = there r a e in let l = there h b i in
          subst (λ o. IsForm (with_sides c (Some a.params) (before o)) p) l.type (subst (λ o. IsForm (with_sides c (before o) (before (context.procedure c h))) p) k.type w)

      of_both_results : IsForm (with_sides c (Some (result_of a)) (Some (result_of b))) f
      of_both_results =
          let k = there r a e in let l = there h b i in
          subst (λ o. IsForm (with_sides c (Some (result_of a)) (after o)) f) l.type (subst (λ o. IsForm (with_sides c (after o) (after (context.procedure c h))) f) k.type v)

      abbrev after_bodies : Term
      after_bodies = term_changed f (returned Left a ∷ returned Right b ∷ [])

      two_goal : IsTypedGoal c (equiv (body a.body.list) (body b.body.list) p after_bodies)
      two_goal = (
        locals_of a,
        locals_of b,
        (tt, (let k = left_typed in k.body), (let k = right_typed in k.body), two_starts_typed c a b p of_both_params, two_results_typed c outer a b f left_typed right_typed of_both_results),
      )

      two_imply : ImpliesIn (declared ds) c (equiv (body a.body.list) (body b.body.list) p after_bodies ∷ []) (equiv (procedure r) (procedure h) p f)
      two_imply g fits over j fair s fit l m n x =
          let A = linked g over r a e in
          let B = linked g over h b i in
          let left_run = sym (called_run c g r a left_typed A s m) in
          let left_denominator = sym (called_denominator c g r a left_typed A) in
          let right_run = sym (called_run c g h b right_typed B s n) in
          let right_denominator = sym (called_denominator c g h b right_typed B) in
          subst (λ z. z) (λ k. Coupling (λ y z. IsTrueUnder g j f (between s y z)) (left_run k) (left_denominator k) (right_run k) (right_denominator k))
          (coupling_dmap {Q = λ y z. IsTrueUnder g j after_bodies (between s y z)} (λ y z. IsTrueUnder g j f (between s y z)) (ended g a) (ended g b)
          (λ y z u. sym (two_results c outer g j fair s y z a b f fits left_typed right_typed of_both_results) ∙ u)
          (l.0 (start g a m) (start g b n) (sym (two_starts c g fits j fair s a b p of_both_params m n) ∙ x)))

    two_sound : (r h : ProcRef) (o u : Option Proc) → procedure_of ds r ≡ o → procedure_of ds h ≡ u → (p f : Term) →
        IsForm (with_sides c (before (context.procedure c r)) (before (context.procedure c h))) p → IsForm (with_sides c (after (context.procedure c r)) (after (context.procedure c h))) f →
        (Gs : List Goal) → of_two p f (option_zip o u) ≡ given Gs → AllByRecursion (IsTypedGoal c) Gs × ImpliesIn (declared ds) c Gs (equiv (procedure r) (procedure h) p f)
    two_sound r h None u e i p f w v Gs k = refused_given Shape Gs k
    two_sound r h (Some a) None e i p f w v Gs k = refused_given Shape Gs k
    two_sound r h (Some a) (Some b) e i p f w v Gs k =
        sound_given_in (declared ds) c (equiv (procedure r) (procedure h) p f) _ Gs ((two_goal r h a b e i p f w v, tt), two_imply r h a b e i p f w v) k

  pub sound : IsSoundRuleIn (declared ds) c (proc_row ds) no_arguments
  sound outer ls rs (hoare (procedure r) p f) w y Gs e = one_sound outer r (procedure_of ds r) refl p f w.1 w.2 Gs e
  sound outer ls rs (equiv (procedure r) (procedure h) p f) w y Gs e = two_sound outer r h (procedure_of ds r) (procedure_of ds h) refl refl p f w.3 w.4 Gs e
  sound outer ls rs (hoare (body is) p f) w y Gs e = refused_given Shape Gs e
  sound outer ls rs (phoare (procedure r) o p f b) w y Gs e = chance_sound outer r (procedure_of ds r) refl o p f b w.1 w.2 w.3 w.4 Gs e
  sound outer ls rs (phoare (body is) o p f b) w y Gs e = refused_given Shape Gs e
  sound outer ls rs (equiv (body is) b p f) w y Gs e = refused_given Shape Gs e
  sound outer ls rs (equiv (procedure r) (body js) p f) w y Gs e = refused_given Shape Gs e
  sound outer ls rs (ambient f) w y Gs e = refused_given Shape Gs e
