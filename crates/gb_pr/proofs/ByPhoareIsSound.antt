-- `byphoare` is sound.
use Rattle.std.proofs.Common.{◌≡◌, ◌<◌, true, List, [], ◌∷◌, Option, Some, None, refl, ap, sym, ◌∙◌, subst}
use Rattle.std.specs.List.{AllByRecursion}
use Rattle.gb_core.specs.declared.refusal.Why.TheVariants.{Shape}
use Rattle.gb_core.specs.declared.ty.Ty.TheVariants as ty
use Rattle.gb_terms.specs.declared.decl.Proc.{Proc}
use Rattle.gb_terms.specs.declared.decl.TypedName.{TypedName}
use Rattle.gb_terms.specs.declared.op.Rel.{Rel}
use Rattle.gb_terms.specs.declared.op.Rel.TheVariants.{AtMost, Equal, AtLeast}
use Rattle.gb_terms.specs.declared.op.Side.TheVariants.{Own}
use Rattle.gb_terms.specs.declared.term.Term.{Term}
use Rattle.gb_meaning.specs.Fractions.{Fraction}
use Rattle.gb_meaning.specs.Judgments.{Judge, IsFair, IsSoundIfThere, chance, compares, den, outcome_denominator, speaking}
use Rattle.gb_meaning.specs.Meanings.{fraction_in}
use Rattle.gb_meaning.specs.Memory.{Memory, result_name}
use Rattle.gb_meaning.specs.Program.{Routine}
use Rattle.gb_meaning.specs.Setting.{Setting}
use Rattle.gb_meaning.specs.Setting.Meaning.{fraction}
use Rattle.gb_meaning.specs.State.{State, at}
use Rattle.gb_meaning.specs.Terms.{val}
use Rattle.gb_meaning.specs.Written.{type_of}
use Rattle.gb_meaning.proofs.Runs.{routine_positive}
use Rattle.gb_goal.specs.declared.sequent.Sequent.{Sequent}
use Rattle.gb_goal.specs.Answers.Answer.{given}
use Rattle.gb_goal.specs.Goal.{Goal}
use Rattle.gb_goal.specs.Goal.Code.{procedure}
use Rattle.gb_goal.specs.Goal.Goal.{hoare, phoare, equiv, ambient}
use Rattle.gb_goal.specs.Scope.{Declarations, procedure_of}
use Rattle.gb_meaning.specs.Declared.{declared}
use Rattle.gb_steps.specs.declared.step.Conditions.{Conditions}
use Rattle.gb_steps.specs.declared.step.ProbabilityRule.TheVariants.{ByPhoare}
use Rattle.gb_typing.specs.Context.{Context, with_own}
use Rattle.gb_typing.specs.Context as context
use Rattle.gb_typing.specs.Fits.{IsSettingOf, IsStateOf}
use Rattle.gb_typing.specs.Forms.{every}
use Rattle.gb_typing.specs.Goals.{IsTypedGoal}
use Rattle.gb_typing.specs.Meaning.{run_of, denominator_of}
use Rattle.gb_typing.specs.Programs.{type_of_procedure}
use Rattle.gb_typing.specs.Rules.{ImpliesIn, IsSoundRuleIn, outermost}
use Rattle.gb_typing.specs.Scopes.{context_of, IsTypedScope}
use Rattle.gb_typing.specs.Sequents.{of_sequent, IsTypedSequent}
use Rattle.gb_typing.specs.Typing.{IsForm, IsThere, IsTyped, before, after}
use Rattle.gb_typing.proofs.Ambient.{one_typed as every_typed, one_meaning as every_meaning}
use Rattle.gb_typing.proofs.Given.{refused_given, sound_given_in}
use Rattle.gb_typing.proofs.Located.{IsTypedThere}
use Rattle.gb_typing.proofs.Sound.{procedures_sound}
use Rattle.gb_prog.specs.Compared.{compared}
use Rattle.gb_prog.specs.Likely.{as_likely}
use Rattle.gb_prog.proofs.Bound.{bound_value}
use Rattle.gb_prog.proofs.Comparing.{compared_is}
use Rattle.gb_prog.proofs.Likely.{as_likely_typed, likely_at}
use Rattle.gb_prog.proofs.Weaker.{Follows, event_follows}
use Rattle.gb_steps.specs.Chances.{Bounded, bounded_of}
use Rattle.gb_pr.specs.ByPhoare.{AreConditions, by_phoare_at, by_phoare_goals, by_phoare_of, by_phoare_row}
use Rattle.gb_pr.specs.Rows.{IsTypedAt}
use Rattle.gb_pr.proofs.BoundedForms.{IsBounded, is_bounded, sides_made, term_typed}
use Rattle.gb_pr.proofs.ChanceForms.{IsTypedChance, chance_real, chance_typed}
use Rattle.gb_pr.proofs.Probabilities.{probability_is, starts, there as procedure_found}
use Rattle.gb_pr.proofs.Starts.{IsStart, one_means, one_typed, start_of}

positive : (g : Setting) (o : Option Routine) → IsSoundIfThere g o → 0 < outcome_denominator g o
positive g (Some r) w = routine_positive g r w
positive g None w = absurd w

-- A probability that is compared with a bound, the procedure of which is there with these parameters, and conditions.
module _ (c : Context) (outer : c ≡ outermost c) (s : Conditions) (f : Term) (w : IsForm c f) (b : Bounded) (z : IsBounded f b) (a : Proc)
    (there : context.procedure c b.chance.procedure ≡ Some (type_of_procedure a)) (k : AreConditions c s (Some b)) (start : IsStart c a.params b.chance)
    (e : IsTypedChance c b.chance) where
  comparison : IsTyped c (compared b.rel z.term b.bound)
  comparison = subst (IsTyped c) z.is w.typed

  abbrev parts : IsTyped c z.term × IsTyped c b.bound × (type_of b.bound ≡ type_of z.term)
  parts = sides_made c b.rel z.term b.bound comparison

  bound_real : type_of b.bound ≡ ty.Real
  bound_real = parts.2 ∙ chance_real c z.term parts.0 b.chance z.chance

  bound_typed : IsTyped (with_own c None) b.bound
  bound_typed = subst (λ d. IsTyped d b.bound) (outer ∙ ap (λ d. with_own d None) (sym outer)) parts.1

  procedure_there : IsThere (context.procedure c b.chance.procedure)
  procedure_there = subst IsThere (sym there) tt

  pre_typed : IsForm (with_own c (Some a.params)) s.pre
  pre_typed = subst (λ o. IsForm (with_own c (before o)) s.pre) there k.0

  abbrev likely : Term
  likely = as_likely b.rel b.chance.event s.post

  likely_typed : IsForm (with_own c (after (context.procedure c b.chance.procedure))) likely
  likely_typed = as_likely_typed (with_own c (after (context.procedure c b.chance.procedure))) b.rel b.chance.event s.post e.event k.1

  abbrev result : List TypedName
  result = (record { name = result_name; ty = a.result }) ∷ []

  after_is : after (context.procedure c b.chance.procedure) ≡ Some result
  after_is = ap after there

  goals_typed : (ls rs : List TypedName) → AllByRecursion (IsTypedGoal c) (by_phoare_goals a.params s b)
  goals_typed ls rs = (
    (ls, rs, (procedure_there, k.0, k.1, bound_typed, bound_real)),
    ((ls, rs, one_typed c outer a.params b.chance start s.pre pre_typed), ((ls, rs, every_typed c outer (after (context.procedure c b.chance.procedure)) result after_is likely likely_typed), tt)),
  )

  module _ (g : Setting) (fits : IsSettingOf c g) (j : Judge) (fair : IsFair g j) (v : State) (fit : IsStateOf c g v)
      (value : val g (speaking g j) z.term v
      ≡ fraction (chance (run_of g v (procedure b.chance.procedure) (start_of g j v a.params b.chance)) (denominator_of g (procedure b.chance.procedure)) (λ n. den g j b.chance.event (at v n)))) where
    abbrev limit : Fraction
    limit = fraction_in (val g (speaking g j) b.bound v)

    limit_is : val g (speaking g j) b.bound v ≡ fraction limit
    limit_is = bound_value c b.bound bound_typed bound_real g fits j fair v fit

    follows : (r : Rel) → ((m : Memory) → den g j (as_likely r b.chance.event s.post) (at v m) ≡ true) → Follows r (λ m. den g j b.chance.event (at v m)) (λ m. den g j s.post (at v m))
    follows AtMost h = λ m. likely_at g j (at v m) AtMost b.chance.event s.post (h m)
    follows AtLeast h = λ m. likely_at g j (at v m) AtLeast b.chance.event s.post (h m)
    follows Equal h = λ m. likely_at g j (at v m) Equal b.chance.event s.post (h m)

    bounded : ((m : Memory) → den g j s.pre (at v m) ≡ true →
        compares b.rel (chance (run_of g v (procedure b.chance.procedure) m) (denominator_of g (procedure b.chance.procedure)) (λ n. den g j s.post (at v n))) limit ≡ true) →
        den g j s.pre (at v (start_of g j v a.params b.chance)) ≡ true → den g j (every Own likely) v ≡ true → den g j f v ≡ true
    bounded h p q =
        let m : Memory = start_of g j v a.params b.chance in
        let each : (n : Memory) → den g j likely (at v n) ≡ true = every_meaning c outer (after (context.procedure c b.chance.procedure)) result after_is likely likely_typed g fits j fair v q in
        ap (λ f. den g j f v) z.is
        ∙ compared_is g j v b.rel z.term b.bound (chance (run_of g v (procedure b.chance.procedure) m) (denominator_of g (procedure b.chance.procedure)) (λ n. den g j b.chance.event (at v n))) limit value limit_is
        ∙ event_follows (run_of g v (procedure b.chance.procedure) m) (denominator_of g (procedure b.chance.procedure))
        (positive g (g.procedure b.chance.procedure) (procedures_sound c g fits b.chance.procedure procedure_there))
        (λ n. den g j b.chance.event (at v n)) (λ n. den g j s.post (at v n)) b.rel (follows b.rel each) limit (h m p)

module _ (ds : Declarations) (scoped : IsTypedScope (declared ds)) (q : Sequent) (t : IsTypedSequent (context_of (declared ds)) q) where
  abbrev here : Context
  here = of_sequent (context_of (declared ds)) q t.frames

  module _ (outer : here ≡ outermost here) (ls rs : List TypedName) (s : Conditions) (f : Term) (form : IsForm here f) (Gs : List Goal) where
    abbrev Sound : Type 0
    Sound = AllByRecursion (IsTypedGoal here) Gs × ImpliesIn (declared ds) here Gs (ambient f)

    of_procedure : (b : Bounded) → bounded_of f ≡ Some b → AreConditions here s (Some b) → (o : Option Proc) → procedure_of ds b.chance.procedure ≡ o → by_phoare_of s b o ≡ given Gs → Sound
    of_procedure b h w (Some a) x e =
        let z : IsBounded f b = is_bounded f b form.truth h in
        let u : IsTyped here z.term = term_typed here f form b z in
        let k : IsTypedChance here b.chance = chance_typed here z.term u b.chance z.chance in
        let found : IsTypedThere here b.chance.procedure a = procedure_found ds scoped q t b.chance a x in
        let start : IsStart here a.params b.chance = starts ds scoped q t b.chance k a x in
        sound_given_in (declared ds) here (ambient f) (by_phoare_goals a.params s b) Gs (
          goals_typed here outer s f form b z a found.type w start k ls rs,
          λ g fits over j fair v fit h.
              bounded here outer s f form b z a found.type w start k g fits j fair v fit (probability_is ds scoped q t b.chance k a x g fits over j v fit z.term u z.chance)
              h.0 (sym (one_means here outer g fits j fair v fit a.params b.chance start s.pre (pre_typed here outer s f form b z a found.type w start k)) ∙ h.1.0) h.1.1.0,
        ) e
    of_procedure b h w None x e = refused_given Shape Gs e

    of_bounded : (o : Option Bounded) → bounded_of f ≡ o → AreConditions here s o → by_phoare_at ds s o ≡ given Gs → Sound
    of_bounded (Some b) h w e = of_procedure b h w (procedure_of ds b.chance.procedure) refl e
    of_bounded None h w e = refused_given Shape Gs e

  pub sound : (s : Conditions) → IsSoundRuleIn (declared ds) here (by_phoare_row ds s) (λ ls rs G. IsTypedAt here (ByPhoare s) G)
  sound s outer ls rs (ambient f) w y Gs e = of_bounded outer ls rs s f w Gs (bounded_of f) refl y e
  sound s outer ls rs (hoare a p q) w y Gs e = refused_given Shape Gs e
  sound s outer ls rs (phoare a r p q b) w y Gs e = refused_given Shape Gs e
  sound s outer ls rs (equiv a b p q) w y Gs e = refused_given Shape Gs e
