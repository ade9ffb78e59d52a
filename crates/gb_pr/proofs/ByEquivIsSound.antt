-- `byequiv` is sound.
use Rattle.std.proofs.Common.{◌≡◌, List, [], ◌∷◌, Option, Some, None, refl, ap, sym, ◌∙◌, subst}
use Rattle.std.specs.List.{AllByRecursion}
use Rattle.gb_core.specs.declared.refusal.Why.TheVariants.{Shape}
use Rattle.gb_terms.specs.declared.decl.Proc.{Proc}
use Rattle.gb_terms.specs.declared.decl.TypedName.{TypedName}
use Rattle.gb_terms.specs.declared.op.Side.TheVariants.{Left, Right}
use Rattle.gb_terms.specs.declared.term.Term.{Term}
use Rattle.gb_meaning.specs.Judgments.{Judge, IsFair, IsTrueUnder, den}
use Rattle.gb_meaning.specs.Memory.{Memory, result_name}
use Rattle.gb_meaning.specs.Setting.{Setting}
use Rattle.gb_meaning.specs.State.{State, at, between}
use Rattle.gb_meaning.specs.Declared.{declared}
use Rattle.gb_goal.specs.Answers.Answer.{given}
use Rattle.gb_goal.specs.Goal.{Goal}
use Rattle.gb_goal.specs.Goal.Code.{procedure}
use Rattle.gb_goal.specs.Goal.Goal.{hoare, phoare, equiv, ambient}
use Rattle.gb_goal.specs.declared.sequent.Sequent.{Sequent}
use Rattle.gb_goal.specs.Scope.{Declarations, procedure_of}
use Rattle.gb_steps.specs.declared.step.Conditions.{Conditions}
use Rattle.gb_typing.specs.Context.{Context, Frame, with_own, with_sides}
use Rattle.gb_typing.specs.Context as context
use Rattle.gb_typing.specs.Fits.{IsSettingOf}
use Rattle.gb_typing.specs.Forms.{implies_form, every_pair, located}
use Rattle.gb_typing.specs.Goals.{IsTypedGoal}
use Rattle.gb_typing.specs.Meaning.{denominator_of, run_of}
use Rattle.gb_typing.specs.Rules.{ImpliesIn, IsSoundRuleIn, outermost}
use Rattle.gb_typing.specs.Scopes.{context_of, IsTypedScope}
use Rattle.gb_typing.specs.Sequents.{of_sequent, IsTypedSequent}
use Rattle.gb_typing.specs.Typing.{IsForm, IsThere, after, before}
use Rattle.gb_typing.proofs.Ambient.{pair_meaning, pair_typed}
use Rattle.gb_typing.proofs.Forms.{implies_typed, implies_use}
use Rattle.gb_typing.proofs.Given.{refused_given, sound_given_in}
use Rattle.gb_prog.proofs.Likely.{FollowsAt, as_likely_typed, likely_at}
use Rattle.gb_steps.specs.Chances.{Compared, chances_of}
use Rattle.gb_pr.specs.ByEquiv.{beside, by_equiv_at, by_equiv_goals, by_equiv_of, by_equiv_row}
use Rattle.gb_pr.specs.ByEquiv as by_equiv
use Rattle.gb_pr.specs.Rows.{IsTypedAt}
use Rattle.gb_steps.specs.declared.step.ProbabilityRule.TheVariants.{ByEquiv}
use Rattle.gb_pr.proofs.ChanceForms.{AreCompared, IsTypedChance, are_compared, chance_typed, comparison_says, sides_typed}
use Rattle.gb_pr.proofs.CoupledChances.{coupled_chances}
use Rattle.gb_pr.proofs.EventSides.{form_on, means_on}
use Rattle.gb_pr.proofs.Probabilities.{probability_is, starts, there}
use Rattle.gb_pr.proofs.Starts.{IsStart, start_of, two_means, two_typed}

module _ (ds : Declarations) (scoped : IsTypedScope (declared ds)) (q : Sequent) (t : IsTypedSequent (context_of (declared ds)) q) where
  abbrev c : Context
  c = of_sequent (context_of (declared ds)) q t.frames

  module _ (outer : c ≡ outermost c) (s : Conditions) (f : Term) (form : IsForm c f) (k : Compared) (e : chances_of f ≡ Some k) (w : by_equiv.AreConditions c s (Some k)) (p r : Proc)
      (left_is : procedure_of ds k.left.procedure ≡ Some p) (right_is : procedure_of ds k.right.procedure ≡ Some r) where
    seen : AreCompared f k
    seen = are_compared f k e

    typed_left : IsTypedChance c k.left
    typed_left = let x = sides_typed c f form k.rel seen.left seen.right seen.comparison in chance_typed c seen.left x.0 k.left seen.left_chance

    typed_right : IsTypedChance c k.right
    typed_right = let x = sides_typed c f form k.rel seen.left seen.right seen.comparison in chance_typed c seen.right x.1 k.right seen.right_chance

    abbrev L : Frame
    L = after (context.procedure c k.left.procedure)

    abbrev R : Frame
    R = after (context.procedure c k.right.procedure)

    abbrev left_locals : List TypedName
    left_locals = record { name = result_name; ty = (typed_left.type).result } ∷ []

    abbrev right_locals : List TypedName
    right_locals = record { name = result_name; ty = (typed_right.type).result } ∷ []

    left_result : L ≡ Some left_locals
    left_result = ap after typed_left.declared

    right_result : R ≡ Some right_locals
    right_result = ap after typed_right.declared

    -- the events, each in the memory of an outcome
    left_event : IsForm (with_own (outermost c) L) k.left.event
    left_event = subst (λ d. IsForm (with_own d L) k.left.event) outer typed_left.event

    right_event : IsForm (with_own (outermost c) R) k.right.event
    right_event = subst (λ d. IsForm (with_own d R) k.right.event) outer typed_right.event

    beside_typed : IsForm (with_sides c L R) (beside k)
    beside_typed =
        subst (λ d. IsForm (with_sides d L R) (beside k)) (sym outer)
        (as_likely_typed (with_sides (outermost c) L R) k.rel (located Left k.left.event) (located Right k.right.event)
        (form_on c L L R Left tt refl k.left.event seen.left_event left_event) (form_on c R L R Right tt refl k.right.event seen.right_event right_event))

    abbrev related : Term
    related = implies_form s.post (beside k)

    related_typed : IsForm (with_sides c L R) related
    related_typed = implies_typed (with_sides c L R) s.post (beside k) w.1 beside_typed

    pre_typed : IsForm (with_sides c (Some p.params) (Some r.params)) s.pre
    pre_typed =
        let a = there ds scoped q t k.left p left_is in
        let b = there ds scoped q t k.right r right_is in
        subst (λ F. IsForm (with_sides c (Some p.params) F) s.pre) (ap before b.type)
        (subst (λ F. IsForm (with_sides c F (before (context.procedure c k.right.procedure))) s.pre) (ap before a.type) w.0)

    left_starts : IsStart c p.params k.left
    left_starts = starts ds scoped q t k.left typed_left p left_is

    right_starts : IsStart c r.params k.right
    right_starts = starts ds scoped q t k.right typed_right r right_is

    goals_typed : AllByRecursion (IsTypedGoal c) (by_equiv_goals p.params r.params s k)
    goals_typed = (
      ([], [], (tt, subst IsThere (sym typed_left.declared) tt, subst IsThere (sym typed_right.declared) tt, w.0, w.1)),
      (
        ([], [], two_typed c outer p.params r.params k.left k.right left_starts right_starts s.pre pre_typed),
        (([], [], pair_typed c outer L R left_locals right_locals left_result right_result related related_typed), tt),
      ),
    )

    module _ (g : Setting) (fits : IsSettingOf c g) (j : Judge) (fair : IsFair g j) (st : State) (h : IsTrueUnder g j (every_pair related) st) (m n : Memory) where
      on_sides : FollowsAt k.rel (den g j (located Left k.left.event) (between st m n)) (den g j (located Right k.right.event) (between st m n)) → FollowsAt k.rel (den g j k.left.event (at st m)) (den g j k.right.event (at st n))
      on_sides x =
          subst (λ b. FollowsAt k.rel (den g j k.left.event (at st m)) b) (means_on c R Right g j st m n k.right.event seen.right_event right_event)
          (subst (λ a. FollowsAt k.rel a (den g j (located Right k.right.event) (between st m n))) (means_on c L Left g j st m n k.left.event seen.left_event left_event) x)

      -- outcomes that the postcondition relates are in the events as the comparison asks
      events_follow : IsTrueUnder g j s.post (between st m n) → FollowsAt k.rel (den g j k.left.event (at st m)) (den g j k.right.event (at st n))
      events_follow z =
          on_sides (likely_at g j (between st m n) k.rel (located Left k.left.event) (located Right k.right.event)
          (implies_use g j s.post (beside k) (between st m n) (pair_meaning c outer L R left_locals right_locals left_result right_result related related_typed g fits j fair st h m n) z))

    goals_imply : ImpliesIn (declared ds) c (by_equiv_goals p.params r.params s k) (ambient f)
    goals_imply g fits over j fair st fit h =
        let x = sides_typed c f form k.rel seen.left seen.right seen.comparison in
        let m = start_of g j st p.params k.left in
        let n = start_of g j st r.params k.right in
        let before : IsTrueUnder g j s.pre (between st m n) =
        sym (two_means c outer g fits j fair st fit p.params r.params k.left k.right left_starts right_starts s.pre pre_typed) ∙ h.1.0 in
        comparison_says c f form k.rel seen.left seen.right seen.comparison g j st _ _
        (probability_is ds scoped q t k.left typed_left p left_is g fits over j st fit seen.left x.0 seen.left_chance)
        (probability_is ds scoped q t k.right typed_right r right_is g fits over j st fit seen.right x.1 seen.right_chance)
        ∙ coupled_chances (λ a b. IsTrueUnder g j s.post (between st a b)) (run_of g st (procedure k.left.procedure) m) (denominator_of g (procedure k.left.procedure))
        (run_of g st (procedure k.right.procedure) n) (denominator_of g (procedure k.right.procedure)) (h.0 m n before)
        (λ a. den g j k.left.event (at st a)) (λ b. den g j k.right.event (at st b)) k.rel (λ a b z. events_follow g fits j fair st h.1.1.0 a b z)

  module _ (outer : c ≡ outermost c) (s : Conditions) (f : Term) (form : IsForm c f) (Gs : List Goal) where
    abbrev Sound : Type 0
    Sound = AllByRecursion (IsTypedGoal c) Gs × ImpliesIn (declared ds) c Gs (ambient f)

    of_procedures : (k : Compared) → chances_of f ≡ Some k → by_equiv.AreConditions c s (Some k) → (a b : Option Proc) → procedure_of ds k.left.procedure ≡ a → procedure_of ds k.right.procedure ≡ b → by_equiv_of s k a b ≡ given Gs → Sound
    of_procedures k h w (Some p) (Some r) x y e =
        sound_given_in (declared ds) c (ambient f) (by_equiv_goals p.params r.params s k) Gs (goals_typed outer s f form k h w p r x y, goals_imply outer s f form k h w p r x y) e
    of_procedures k h w None b x y e = refused_given Shape Gs e
    of_procedures k h w (Some p) None x y e = refused_given Shape Gs e

    of_comparison : (o : Option Compared) → chances_of f ≡ o → by_equiv.AreConditions c s o → by_equiv_at ds s o ≡ given Gs → Sound
    of_comparison (Some k) h w e = of_procedures k h w (procedure_of ds k.left.procedure) (procedure_of ds k.right.procedure) refl refl e
    of_comparison None h w e = refused_given Shape Gs e

  pub sound : (s : Conditions) → IsSoundRuleIn (declared ds) c (by_equiv_row ds s) (λ ls rs G. IsTypedAt c (ByEquiv s) G)
  sound s outer ls rs (ambient f) w y Gs e = of_comparison outer s f w Gs (chances_of f) refl y e
  sound s outer ls rs (hoare a p q) w y Gs e = refused_given Shape Gs e
  sound s outer ls rs (phoare a r p q b) w y Gs e = refused_given Shape Gs e
  sound s outer ls rs (equiv a b p q) w y Gs e = refused_given Shape Gs e
