-- `rcondt` and `rcondf` on one of two programs are sound where loops end.
use Rattle.std.proofs.Common.{◌≡◌, ℕ, ◌<◌, ◌||◌, Bool, true, false, if◌then◌else◌, List, [], ◌∷◌, ◌++◌, length, map, Option, Some, None, refl, ap, sym, ◌∙◌, subst, arith}
use Rattle.std.proofs.lemmas.List.{length-append, length-map}
use Rattle.std.specs.List.{AllByRecursion}
use Rattle.gb_core.specs.declared.place.Place.{Place}
use Rattle.gb_core.specs.declared.refusal.Why.TheVariants.{Shape}
use Rattle.gb_core.specs.declared.ty.Ty.{Ty}
use Rattle.gb_core.specs.declared.ty.Ty.TheVariants as ty
use Rattle.gb_core.specs.declared.value.Value.{Value}
use Rattle.gb_dist.specs.WeightedList.{Every}
use Rattle.gb_dist.specs.Coupling.{Coupling}
use Rattle.gb_dist.proofs.Basic.{coupling_same}
use Rattle.gb_dist.proofs.Distributions.{same_reflexive}
use Rattle.gb_dist.proofs.Entries.{Every-weaken}
use Rattle.gb_terms.specs.declared.decl.TypedName.{TypedName}
use Rattle.gb_terms.specs.declared.op.Side.TheVariants as side
use Rattle.gb_terms.specs.declared.term.Instr.{Instr, out-Instr}
use Rattle.gb_terms.specs.declared.term.Term.{Term}
use Rattle.gb_meaning.specs.Commands.{statements}
use Rattle.gb_meaning.specs.Judgments.{Judge, IsFair, IsTrueIn, IsTrueUnder, den}
use Rattle.gb_meaning.specs.Meanings.{truth}
use Rattle.gb_meaning.specs.Memory.{Memory}
use Rattle.gb_meaning.specs.Runs.{is_true}
use Rattle.gb_meaning.specs.Setting.{Setting}
use Rattle.gb_meaning.specs.Sound.{IsSound}
use Rattle.gb_meaning.specs.State.{State, at, between}
use Rattle.gb_meaning.specs.Written.{type_of}
use Rattle.gb_meaning.proofs.Runs.{run_positive}
use Rattle.gb_laws.specs.Plain.{IsPlain}
use Rattle.gb_goal.specs.Scope.{Declarations as Scope}
use Rattle.gb_meaning.specs.Declared.{Declarations, declared}
use Rattle.gb_meaning.specs.Holds.{AreTrue, AreValues, Holds, context}
use Rattle.gb_meaning.specs.Settings.{Interpretation, setting, types_of}
use Rattle.gb_meaning.specs.Truth.{Truth}
use Rattle.gb_meaning.proofs.Fronts.{without_modules}
use Rattle.gb_goal.specs.Goal.{Goal, IsJudgment, form_of, goal_of}
use Rattle.gb_goal.specs.Answers.{Answer, placed_at}
use Rattle.gb_goal.specs.Answers.Answer.{given, refused}
use Rattle.gb_goal.specs.Goal.Code.{body, procedure}
use Rattle.gb_goal.specs.Goal.Goal.{hoare, phoare, equiv, ambient}
use Rattle.gb_goal.specs.Rows.{concluding, refusing}
use Rattle.gb_steps.specs.declared.step.Acts.{Acts}
use Rattle.gb_steps.specs.declared.step.Acts.TheVariants as on
use Rattle.gb_goal.specs.declared.sequent.Hyp.{Hyp}
use Rattle.gb_goal.specs.declared.sequent.Sequent.{Sequent}
use Rattle.gb_typing.specs.Context.{Context, Frame, with_own, with_sides}
use Rattle.gb_typing.specs.Fits.{IsSettingOf}
use Rattle.gb_typing.specs.Goals.{IsGoalOver}
use Rattle.gb_typing.specs.Meaning.{Stands, run, denominator}
use Rattle.gb_typing.specs.Programs.{EachStatement, IsBody, IsExpression}
use Rattle.gb_typing.specs.Scopes.{context_of, IsTypedScope}
use Rattle.gb_typing.specs.Sequents.{with_modules, AreHypotheses, IsConclusion, of_sequent, IsTypedSequent}
use Rattle.gb_typing.specs.Typing.{IsForm}
use Rattle.gb_typing.proofs.Anywhere.{value_anywhere}
use Rattle.gb_typing.proofs.Drawing.{body_sound}
use Rattle.gb_typing.proofs.Exact.{exact}
use Rattle.gb_typing.proofs.Given.{refused_at, refused_given, same_given}
use Rattle.gb_typing.proofs.Grown.{Grows, grown_body, grown_expression}
use Rattle.gb_typing.proofs.Lifted.{InEachSequent, joined, sequent_outermost, typed_subgoals}
use Rattle.gb_typing.proofs.Lists.{typed_append}
use Rattle.gb_typing.proofs.RunsAnywhere.{run_anywhere}
use Rattle.gb_typing.proofs.Models.{each_setting}
use Rattle.gb_typing.proofs.Shapes.{form_goal, goal_form}
use Rattle.gb_typing.proofs.TypedGoals.{goal_conclusion, goal_front}
use Rattle.gb_prog.specs.Ends.{LoopsEnd, SequentEnds}
use Rattle.gb_prog.proofs.Own.{Good, good_append}
use Rattle.gb_amb.specs.Quantified.{goal_quantifies_modules}
use Rattle.gb_amb.proofs.Around.{hypotheses_to}
use Rattle.gb_amb.proofs.States.{memory_agrees, memory_at}
use Rattle.gb_amb.proofs.Wider.{large, more_memory, small, wider}
use Rattle.gb_prog.specs.OneBody.{OneBody}
use Rattle.gb_call_both.specs.OneSide.{speaks}
use Rattle.gb_call_both.proofs.SideSteps.{plain_form}
use Rattle.gb_trans.specs.Places.{At, statement_at}
use Rattle.gb_trans.proofs.Placed.{place_given, placed, whole}
use Rattle.gb_forms.specs.Decided.{deciding}
use Rattle.gb_trans.specs.Decided.{Decision, decision}
use Rattle.gb_trans.proofs.DecidedIsSound.{behind_alike, decided_is, deciding_typed}
use Rattle.gb_trans.proofs.Deciding.{Decides, RunAlikeFrom, decided_by}
use Rattle.gb_trans.proofs.Shapes.{split_typed}
use Rattle.gb_trans.specs.Beside.{at_place, beside, beside_answer, by_decision, known_beside, memory_name, on_body, one_of_two}
use Rattle.gb_trans.proofs.Seats.{left_means, left_typed, right_means, right_typed, sides}

-- From a memory from where the guard is so where the statement stands, a body runs as with what is left of it.
module _ (c : Context) (u : Bool) (k : At) (d : Decision) (known : Decides c u k.statement d) (ls : List TypedName) (w : EachStatement c ls (whole k)) (g : Setting) (fits : IsSettingOf c g)
    (good : Good g (whole k)) (s : State) where
  abbrev kept : List Instr
  kept = k.before ++ (d.left ++ k.rest)

  from_memory : (m : Memory) → Every (λ n. is_true g s d.guard n ≡ u) (run g s k.before m) → RunAlikeFrom g s m (statements g kept) (statements g (whole k))
  from_memory m h =
      let x = split_typed c ls k.before (k.statement ∷ k.rest) w in
      let z = (good_append g (k.statement ∷ []) k.rest).0 ((good_append g k.before (k.statement ∷ k.rest)).0 good).1 in
      behind_alike g s k.before d.left (k.statement ∷ []) k.rest m (Every-weaken {P = λ n. is_true g s d.guard n ≡ u} (run g s k.before m) (λ n e f. sym (known.alike ls x.1.0 g fits z.0 s n e f)) h)

module _ (ds : Declarations) (scope : IsTypedScope ds) (q : Sequent) (t : IsTypedSequent (context_of ds) q) where
  abbrev c : Context
  c = of_sequent (context_of ds) q t.frames

  abbrev base : Context
  base = with_modules (context_of ds) q.modules

  abbrev us : List Ty
  us = map (λ x. x.ty) q.logical

  abbrev ns : List Frame
  ns = map (λ l. Some l) t.frames

  here : c ≡ small base us ns
  here = sequent_outermost ds q t.frames

  -- the context with a memory more
  abbrev wide : List TypedName → Context
  wide O = large base us ns us (ns ++ Some O ∷ [])

  grows : (O : List TypedName) → Grows (small base us ns) (wide O)
  grows O = record { global = λ m x t e. e; operator = λ n o e. e; procedures = λ p t e. e }

  many : length ns ≡ length q.memories
  many = length-map t.frames (λ l. Some l) ∙ t.memories

  -- a goal of one program, with that memory
  judged : (T O : List TypedName) (is : List Instr) (p e : Term) (u : Bool) → IsBody c T is → IsForm (with_own (wide O) (Some T)) p → IsExpression c T e → type_of e ≡ ty.Bool →
      IsGoalOver (wide O) T [] (hoare (body is) p (deciding u e))
  judged T O is p e u w v x b = (
    grown_body (small base us ns) (wide O) (grows O) T is (subst (λ c. IsBody c T is) here w),
    v,
    deciding_typed ds (wide O) u T e (grown_expression (small base us ns) (wide O) (grows O) T e (subst (λ c. IsExpression c T e) here x)) b u,
  )

  module _ (name : List ℕ) (O : List TypedName) (f : Term) where
    abbrev longer : Sequent
    longer = record q { memories = q.memories ++ name ∷ []; conclusion = f }

    frames_with : (fs : List (List TypedName)) → map (λ l. Some l) (fs ++ O ∷ []) ≡ map (λ l. Some l) fs ++ Some O ∷ []
    frames_with [] = refl
    frames_with (l ∷ fs) = ap (λ ns. Some l ∷ ns) (frames_with fs)

    context_longer : wide O ≡ of_sequent (context_of ds) longer (t.frames ++ O ∷ [])
    context_longer = ap (λ ms. large base us ns us ms) (sym (frames_with t.frames)) ∙ sym (sequent_outermost ds longer (t.frames ++ O ∷ []))

    typed_longer : IsConclusion (wide O) f → IsTypedSequent (context_of ds) longer
    typed_longer w = record {
      modules = t.modules;
      logical = t.logical;
      frames = t.frames ++ O ∷ [];
      memories = omega (arith, t.memories, length-append t.frames (O ∷ []), length-append q.memories (name ∷ []));
      hyps = subst (λ d. AreHypotheses d q.hyps) context_longer
          (hypotheses_to c (wide O) (λ f w. wider base us ns us (ns ++ Some O ∷ []) (more_memory us ns (Some O)) f (subst (λ d. IsForm d f) here w)) q.hyps t.hyps);
      conclusion = subst (λ d. IsConclusion d f) context_longer w;
    }

  -- the hypotheses stay true with a memory more
  module _ (k : Interpretation) (fits : IsSettingOf c (setting ds k)) (vs : List Value) (ms : List Memory) (n : Memory) where
    abbrev now : State
    now = context vs ms

    abbrev later : State
    later = context vs (memory_at (length ns) n ms)

    fits_small : IsSettingOf (small base us ns) (setting ds k)
    fits_small = subst (λ d. IsSettingOf d (setting ds k)) here fits

    stay_true : (hs : List Hyp) → AreHypotheses c hs → AreTrue ds hs k now → AreTrue ds hs k later
    stay_true [] w h = tt
    stay_true (x ∷ hs) w h =
        let n = goal_front c [] [] (ambient x.form) w.0 in (
          (without_modules ds x.form k later n).1
              (λ i good. sym (ap truth (memory_agrees base us ns (setting ds k) fits_small i good vs ms _ x.form (subst (λ d. IsForm d x.form) here w.0))) ∙ (without_modules ds x.form k now n).0 h.0 i good),
          stay_true hs w.1 h.1,
        )

    hyps_true : AreTrue ds q.hyps k now → AreTrue ds q.hyps k later
    hyps_true = stay_true q.hyps t.hyps

    fits_wide : (O : List TypedName) → IsSettingOf (wide O) (setting ds k)
    fits_wide O =
        let w = fits_small in
        record { types = record { inhabited = w.types.inhabited; operators = w.types.operators; distributions = w.types.distributions }; once = w.once; procedures = w.procedures }

  -- what the first subgoal says of an interpretation
  abbrev Says : Term → Interpretation → Type 0
  Says f k = (vs : List Value) → AreValues (types_of ds k) us vs → (ms : List Memory) → AreTrue ds q.hyps k (context vs ms) → Truth ds f k (context vs ms)

  -- The guard of a statement of one program, over the locals T, beside another one, over the locals O.
  module _ (u : Bool) (k : At) (d : Decision) (known : Decides c u k.statement d) (T O : List TypedName) (w : IsBody c T (whole k)) (p : Term) (v : IsForm (with_own (wide O) (Some T)) p) where
    parts : EachStatement c T k.before × EachStatement c T (k.statement ∷ k.rest)
    parts = split_typed c T k.before (k.statement ∷ k.rest) w.statements

    guard_typed : IsExpression c T d.guard × (type_of d.guard ≡ ty.Bool)
    guard_typed = (known.typed T parts.1.0).0

    abbrev judgment : Goal
    judgment = hoare (body k.before) p (deciding u d.guard)

    judgment_typed : IsGoalOver (wide O) T [] judgment
    judgment_typed = judged T O k.before p d.guard u (record { locals = w.locals; statements = parts.0 }) v guard_typed.0 guard_typed.1

    -- where it holds, the guard is so from each memory of which the precondition says so beside another one
    guard_known : (i : Interpretation) → IsSettingOf c (setting ds i) → Says (form_of judgment) i → (vs : List Value) → AreValues (types_of ds i) us vs → (ms : List Memory) → AreTrue ds q.hyps i (context vs ms) →
        (j : Judge) → IsFair (setting ds i) j → (m n : Memory) → den (setting ds i) j p (at (context vs (memory_at (length ns) n ms)) m) ≡ true →
        Every (λ x. is_true (setting ds i) (context vs ms) d.guard x ≡ u) (run (setting ds i) (context vs ms) k.before m)
    guard_known i fits says vs values ms hyps j fair m n e =
        let g = setting ds i in
        let s = context vs ms in
        let z = context vs (memory_at (length ns) n ms) in
        let st = (exact (wide O) g (fits_wide i fits vs ms n O) j fair z T [] judgment judgment_typed).0
        ((without_modules ds (form_of judgment) i z (goal_front (wide O) T [] judgment judgment_typed)).0 (says vs values (memory_at (length ns) n ms) (hyps_true i fits vs ms n hyps)) j fair) in
        subst (λ l. Every (λ x. is_true g s d.guard x ≡ u) l) (run_anywhere g c T g k.before parts.0 z s m)
        (Every-weaken {P = λ x. den g j (deciding u d.guard) (at z x) ≡ true} (run g z k.before m)
        (λ x h. ap truth (value_anywhere c T d.guard guard_typed.0 g s z x) ∙ decided_is ds c u T d.guard guard_typed.0 guard_typed.1 u g j z x h) (st m e))

  module _ (u : Bool) (k : At) (d : Decision) (known : Decides c u k.statement d) (L R : List TypedName) (p f : Term) (simple : IsPlain p) where
    abbrev kept_list : List Instr
    kept_list = k.before ++ (d.left ++ k.rest)

    seats_of : IsForm (with_sides c (Some L) (Some R)) p → IsForm (sides base us ns L R) p
    seats_of v = subst (λ d. IsForm (with_sides d (Some L) (Some R)) p) here v

    kept_typed : (T : List TypedName) → IsBody c T (whole k) → IsBody c T kept_list
    kept_typed T w =
        let x = split_typed c T k.before (k.statement ∷ k.rest) w.statements in
        record { locals = w.locals; statements = typed_append c T k.before (d.left ++ k.rest) x.0 (typed_append c T d.left k.rest (known.typed T x.1.0).1 x.1.1) }

    -- on the left
    module _ (js : List Instr) (w : IsGoalOver c L R (equiv (body (whole k)) (body js) p f)) where
      left_seated : IsForm (with_own (wide R) (Some L)) (beside side.Left (length ns) p)
      left_seated = left_typed base us ns L R p simple (seats_of w.3)

      left_stands : (i : Interpretation) → IsSettingOf c (setting ds i) → Good (setting ds i) (whole k) → Says (form_of (judgment u k d known L R w.1 (beside side.Left (length ns) p) left_seated)) i →
          (vs : List Value) → AreValues (types_of ds i) us vs → (ms : List Memory) → AreTrue ds q.hyps i (context vs ms) → (j : Judge) → IsFair (setting ds i) j →
          Stands (setting ds i) j (context vs ms) (equiv (body kept_list) (body js) p f) → Stands (setting ds i) j (context vs ms) (equiv (body (whole k)) (body js) p f)
      left_stands i fits good says vs values ms hyps j fair st m n e =
          let g = setting ds i in
          let s = context vs ms in
          coupling_same {Q = λ x y. IsTrueUnder g j f (between s x y)} {l1 = run g s kept_list m} {k1 = denominator g kept_list} {l2 = run g s js n} {k2 = denominator g js}
          (run g s (whole k) m) (denominator g (whole k)) (run g s js n) (denominator g js)
          (run_positive g (statements g kept_list) (body_sound c g fits L kept_list (let x = kept_typed L w.1 in x.statements))) (run_positive g (statements g js) (body_sound c g fits R js (let x = w.2 in x.statements)))
          (from_memory c u k d known L (let x = w.1 in x.statements) g fits good s m
          (guard_known u k d known L R w.1 (beside side.Left (length ns) p) left_seated i fits says vs values ms hyps j fair m n (left_means base us ns L R g j vs ms m n p simple (seats_of w.3) ∙ e)))
          (same_reflexive (run g s js n) (denominator g js)) (st m n e)

    -- on the right
    module _ (js : List Instr) (w : IsGoalOver c L R (equiv (body js) (body (whole k)) p f)) where
      right_seated : IsForm (with_own (wide L) (Some R)) (beside side.Right (length ns) p)
      right_seated = right_typed base us ns L R p simple (seats_of w.3)

      right_stands : (i : Interpretation) → IsSettingOf c (setting ds i) → Good (setting ds i) (whole k) → Says (form_of (judgment u k d known R L w.2 (beside side.Right (length ns) p) right_seated)) i →
          (vs : List Value) → AreValues (types_of ds i) us vs → (ms : List Memory) → AreTrue ds q.hyps i (context vs ms) → (j : Judge) → IsFair (setting ds i) j →
          Stands (setting ds i) j (context vs ms) (equiv (body js) (body kept_list) p f) → Stands (setting ds i) j (context vs ms) (equiv (body js) (body (whole k)) p f)
      right_stands i fits good says vs values ms hyps j fair st m n e =
          let g = setting ds i in
          let s = context vs ms in
          coupling_same {Q = λ x y. IsTrueUnder g j f (between s x y)} {l1 = run g s js m} {k1 = denominator g js} {l2 = run g s kept_list n} {k2 = denominator g kept_list}
          (run g s js m) (denominator g js) (run g s (whole k) n) (denominator g (whole k))
          (run_positive g (statements g js) (body_sound c g fits L js (let x = w.1 in x.statements))) (run_positive g (statements g kept_list) (body_sound c g fits R kept_list (let x = kept_typed R w.2 in x.statements)))
          (same_reflexive (run g s js m) (denominator g js))
          (from_memory c u k d known R (let x = w.2 in x.statements) g fits good s n
          (guard_known u k d known R L w.2 (beside side.Right (length ns) p) right_seated i fits says vs values ms hyps j fair n m (right_means base us ns L R g j vs ms m n p simple (seats_of w.3) ∙ e)))
          (st m n e)

  -- Sequents.

  abbrev pub Leads : List Sequent → Type 0
  Leads qs = AllByRecursion (IsTypedSequent (context_of ds)) qs × (SequentEnds ds q → AllByRecursion (SequentEnds ds) qs × (AllByRecursion (Holds ds) qs → Holds ds q))

  abbrev Ending : Interpretation → Type 0
  Ending i = LoopsEnd (setting ds i) (goal_of q.conclusion)

  -- in each setting in which the loops of the goal end
  in_endings : (P : Interpretation → Type 0) → ((i : Interpretation) → Ending i → P i) → SequentEnds ds q → InEachSequent ds q P
  in_endings P f h = joined ds q Ending Ending P (λ i x y. f i x) h h

  record IsPlace (i : Interpretation) : Type 0 where
    fits : IsSettingOf c (setting ds i)
    ends : Ending i

  places : SequentEnds ds q → InEachSequent ds q IsPlace
  places h = joined ds q (λ i. IsSettingOf c (setting ds i)) Ending IsPlace (λ i x y. record { fits = x; ends = y }) (each_setting ds scope q t.modules t.frames) h

  module _ (truth : type_of q.conclusion ≡ ty.Bool) (L R : List TypedName) (all : Scope) where
    abbrev name : List ℕ
    name = memory_name all q

    -- the first subgoal, another goal, and the goal from which they are
    module _ (one : Goal) (T O : List TypedName) (one_typed : IsGoalOver (wide O) T [] one) (judges : IsJudgment one) (two goal : Goal) (two_typed : IsGoalOver c L R two) (judges_two : IsJudgment two)
        (goal_typed : IsGoalOver c L R goal) (is : goal_of q.conclusion ≡ goal)
        (ends : (g : Setting) → LoopsEnd g goal → LoopsEnd g one × LoopsEnd g two)
        (stands : (i : Interpretation) → IsSettingOf c (setting ds i) → LoopsEnd (setting ds i) goal → Says (form_of one) i → (vs : List Value) → AreValues (types_of ds i) us vs → (ms : List Memory) →
        AreTrue ds q.hyps i (context vs ms) → (j : Judge) → IsFair (setting ds i) j → Stands (setting ds i) j (context vs ms) two → Stands (setting ds i) j (context vs ms) goal) where
      ends_here : (g : Setting) → LoopsEnd g (goal_of q.conclusion) → LoopsEnd g (goal_of (form_of one)) × LoopsEnd g (goal_of (form_of two))
      ends_here g h = let x = ends g (subst (LoopsEnd g) is h) in (subst (LoopsEnd g) (sym (form_goal one judges)) x.0, subst (LoopsEnd g) (sym (form_goal two judges_two)) x.1)

      conclusion_is : form_of goal ≡ q.conclusion
      conclusion_is = ap form_of (sym is) ∙ goal_form q.conclusion truth

      said : (i : Interpretation) → IsPlace i → Says (form_of one) i → Says (form_of two) i → Says q.conclusion i
      said i z x y vs values ms hyps =
          let g = setting ds i in
          subst (λ f. Truth ds f i (context vs ms)) conclusion_is
          ((without_modules ds (form_of goal) i (context vs ms) (goal_front c L R goal goal_typed)).1
          (λ j fair. (exact c g z.fits j fair (context vs ms) L R goal goal_typed).1
          (stands i z.fits (subst (LoopsEnd g) is z.ends) x vs values ms hyps j fair
          ((exact c g z.fits j fair (context vs ms) L R two two_typed).0 ((without_modules ds (form_of two) i (context vs ms) (goal_front c L R two two_typed)).0 (y vs values ms hyps) j fair)))))

      both_lead : Leads (longer name O (form_of one) ∷ concluding q two ∷ [])
      both_lead = (
        (typed_longer name O (form_of one) (goal_conclusion (wide O) T [] one one_typed), typed_subgoals ds q t (two ∷ []) ((L, R, two_typed), tt)),
        λ h. (
          (in_endings (λ i. LoopsEnd (setting ds i) (goal_of (form_of one))) (λ i x. (ends_here (setting ds i) x).0) h, (in_endings (λ i. LoopsEnd (setting ds i) (goal_of (form_of two))) (λ i x. (ends_here (setting ds i) x).1) h, tt)),
          λ holds.
              joined ds q IsPlace (λ i. Says (form_of one) i × Says (form_of two) i) (Says q.conclusion) (λ i z x. said i z x.0 x.1) (places h)
              (joined ds q (Says (form_of one)) (Says (form_of two)) (λ i. Says (form_of one) i × Says (form_of two) i) (λ i x y. (x, y)) holds.0 holds.1.0),
        ),
      )

    module _ (u : Bool) (k : At) (d : Decision) (known : Decides c u k.statement d) where
      abbrev left_over : List Instr
      left_over = k.before ++ (d.left ++ k.rest)

      loops : (g : Setting) → Good g (whole k) → Good g k.before × Good g left_over
      loops g h =
          let x = (good_append g k.before (k.statement ∷ k.rest)).0 h in
          let y = (good_append g (k.statement ∷ []) k.rest).0 x.1 in
          (x.0, (good_append g k.before (d.left ++ k.rest)).1 (x.0, (good_append g d.left k.rest).1 (known.ends g y.0, y.1)))

      module _ (js : List Instr) (p f : Term) (simple : IsPlain p) where
        on_left : goal_of q.conclusion ≡ equiv (body (whole k)) (body js) p f → (w : IsGoalOver c L R (equiv (body (whole k)) (body js) p f)) →
            Leads (longer name R (form_of (hoare (body k.before) (beside side.Left (length q.memories) p) (deciding u d.guard))) ∷ concluding q (equiv (body left_over) (body js) p f) ∷ [])
        on_left is w =
            subst (λ n. Leads (longer name R (form_of (hoare (body k.before) (beside side.Left n p) (deciding u d.guard))) ∷ concluding q (equiv (body left_over) (body js) p f) ∷ [])) many
            (both_lead (hoare (body k.before) (beside side.Left (length ns) p) (deciding u d.guard)) L R
            (judgment_typed u k d known L R w.1 (beside side.Left (length ns) p) (left_seated u k d known L R p f simple js w)) tt (equiv (body left_over) (body js) p f) (equiv (body (whole k)) (body js) p f)
            (tt, kept_typed u k d known L R p f simple L w.1, w.2, w.3, w.4) tt w is (λ g h. let x = loops g h.0 in (x.0, (x.1, h.1)))
            (λ i fits h says. left_stands u k d known L R p f simple js w i fits h.0 says))

        on_right : goal_of q.conclusion ≡ equiv (body js) (body (whole k)) p f → (w : IsGoalOver c L R (equiv (body js) (body (whole k)) p f)) →
            Leads (longer name L (form_of (hoare (body k.before) (beside side.Right (length q.memories) p) (deciding u d.guard))) ∷ concluding q (equiv (body js) (body left_over) p f) ∷ [])
        on_right is w =
            subst (λ n. Leads (longer name L (form_of (hoare (body k.before) (beside side.Right n p) (deciding u d.guard))) ∷ concluding q (equiv (body js) (body left_over) p f) ∷ [])) many
            (both_lead (hoare (body k.before) (beside side.Right (length ns) p) (deciding u d.guard)) R L
            (judgment_typed u k d known R L w.2 (beside side.Right (length ns) p) (right_seated u k d known L R p f simple js w)) tt (equiv (body js) (body left_over) p f) (equiv (body js) (body (whole k)) p f)
            (tt, w.1, kept_typed u k d known L R p f simple R w.2, w.3, w.4) tt w is (λ g h. let x = loops g h.1 in (x.0, (h.0, x.1)))
            (λ i fits h says. right_stands u k d known L R p f simple js w i fits h.1 says))

    -- What the row gives.

    by_place : (n : ℕ) (u : Bool) (o : OneBody) (qs : List Sequent) → at_place all n u q o ≡ given qs →
        ((k : At) → whole k ≡ o.list → (d : Decision) → Decides c u k.statement d → Leads (known_beside all u q o k d ∷ concluding q (o.goal (k.before ++ (d.left ++ k.rest)) o.pre o.post) ∷ [])) → Leads qs
    by_place n u o qs e make =
        let z = place_given (λ k. by_decision all u q o k (decision u k.statement (out-Instr k.statement))) (statement_at n o.list) qs e in
        decided z.0 (placed n o.list z.0 z.1) (decision u (let k = z.0 in k.statement) (out-Instr (let k = z.0 in k.statement))) refl z.2
      where
        decided : (k : At) → whole k ≡ o.list → (r : Option Decision) → decision u k.statement (out-Instr k.statement) ≡ r → by_decision all u q o k r ≡ given qs → Leads qs
        decided k is None h e = refused_given Shape qs e
        decided k is (Some d) h e = subst Leads (same_given _ qs e) (make k is d (decided_by c k.statement u d h))

    abbrev left_body : List Instr → List Instr → Term → Term → OneBody
    left_body is js p f = record { side = side.Left; list = is; pre = p; post = f; goal = λ is p q. equiv (body is) (body js) p q }

    abbrev right_body : List Instr → List Instr → Term → Term → OneBody
    right_body is js p f = record { side = side.Right; list = is; pre = p; post = f; goal = λ is p q. equiv (body js) (body is) p q }

    by_goal : (n : ℕ) (u : Bool) (a : Acts) (G : Goal) → goal_of q.conclusion ≡ G → IsGoalOver c L R G → (qs : List Sequent) → on_body all n u q (one_of_two a G) ≡ given qs → Leads qs
    by_goal n u on.Left (equiv (body is) (body js) p f) h w qs e = by_speaks (speaks p) refl e
      where
        by_speaks : (b : Bool) → speaks p ≡ b → (if b then refusing Shape else at_place all n u q (left_body is js p f)) ≡ given qs → Leads qs
        by_speaks true s e = refused_given Shape qs e
        by_speaks false s e =
            by_place n u (left_body is js p f) qs e
            (λ k i d known. on_left u k d known js p f (plain_form p s) (h ∙ ap (λ is. equiv (body is) (body js) p f) (sym i)) (subst (λ is. IsGoalOver c L R (equiv (body is) (body js) p f)) (sym i) w))
    by_goal n u on.Right (equiv (body js) (body is) p f) h w qs e = by_speaks (speaks p) refl e
      where
        by_speaks : (b : Bool) → speaks p ≡ b → (if b then refusing Shape else at_place all n u q (right_body is js p f)) ≡ given qs → Leads qs
        by_speaks true s e = refused_given Shape qs e
        by_speaks false s e =
            by_place n u (right_body is js p f) qs e
            (λ k i d known. on_right u k d known js p f (plain_form p s) (h ∙ ap (λ is. equiv (body js) (body is) p f) (sym i)) (subst (λ is. IsGoalOver c L R (equiv (body js) (body is) p f)) (sym i) w))
    by_goal n u on.All G h w qs e = refused_given Shape qs e
    by_goal n u on.Left (hoare a p f) h w qs e = refused_given Shape qs e
    by_goal n u on.Right (hoare a p f) h w qs e = refused_given Shape qs e
    by_goal n u on.Left (phoare a r p f b) h w qs e = refused_given Shape qs e
    by_goal n u on.Right (phoare a r p f b) h w qs e = refused_given Shape qs e
    by_goal n u on.Left (equiv (procedure a) b p f) h w qs e = refused_given Shape qs e
    by_goal n u on.Right (equiv (procedure a) b p f) h w qs e = refused_given Shape qs e
    by_goal n u on.Left (equiv (body is) (procedure b) p f) h w qs e = refused_given Shape qs e
    by_goal n u on.Right (equiv (body is) (procedure b) p f) h w qs e = refused_given Shape qs e
    by_goal n u on.Left (ambient f) h w qs e = refused_given Shape qs e
    by_goal n u on.Right (ambient f) h w qs e = refused_given Shape qs e

unplaced : {A : Type 0} (place : Place) (r : Answer A) (x : A) → placed_at place r ≡ given x → r ≡ given x
unplaced place (given y) x e = e
unplaced place (refused w p) x e = refused_at w _ x e

-- The law.
pub beside_leads : (ds : Scope) (typed : IsTypedScope (declared ds)) → (q : Sequent) (t : IsTypedSequent (context_of (declared ds)) q) → type_of q.conclusion ≡ ty.Bool → (ls rs : List TypedName) →
    IsGoalOver (of_sequent (context_of (declared ds)) q t.frames) ls rs (goal_of q.conclusion) →
    (n : ℕ) (u : Bool) (a : Acts) (place : Place) (qs : List Sequent) → beside_answer ds n u a place q ≡ given qs → Leads (declared ds) typed q t qs
beside_leads ds typed q t truth ls rs w n u a place qs e = by_test (goal_quantifies_modules q) e
  where
    answer : Answer (List Sequent)
    answer = on_body ds n u q (one_of_two a (goal_of q.conclusion))

    by_test : (b : Bool) → (if b then refused Shape place else placed_at place answer) ≡ given qs → Leads (declared ds) typed q t qs
    by_test true e = refused_at Shape place qs e
    by_test false e = by_goal (declared ds) typed q t truth ls rs ds n u a (goal_of q.conclusion) refl w qs (unplaced place answer qs e)
