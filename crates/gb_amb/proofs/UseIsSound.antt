-- Steps that use a form are sound, and each has one answer.
use Rattle.std.proofs.Common.{◌≡◌, inl, inr, true, false, ℕ, List, [], ◌∷◌, ◌++◌, map, Some, None, refl, ap, sym, ◌∙◌, subst, arith}
use Rattle.std.specs.List.{AllByRecursion}
use Rattle.gb_core.specs.declared.place.Place.{Place}
use Rattle.gb_core.specs.declared.refusal.Why.TheVariants.{Shape}
use Rattle.gb_core.specs.declared.ty.Ty.{Ty}
use Rattle.gb_terms.specs.declared.term.Term.{Term}
use Rattle.gb_goal.specs.Answers.{Answer}
use Rattle.gb_goal.specs.Answers.Answer.{given}
use Rattle.gb_goal.specs.Goal.Goal.{ambient}
use Rattle.gb_goal.specs.declared.sequent.Hyp.{Hyp}
use Rattle.gb_goal.specs.declared.sequent.Sequent.{Sequent}
use Rattle.gb_steps.specs.declared.step.UseRule.{UseRule}
use Rattle.gb_steps.specs.declared.step.UseRule.TheVariants.{Apply, Have}
use Rattle.gb_meaning.specs.Setting.{Setting}
use Rattle.gb_meaning.specs.State.{State}
use Rattle.gb_meaning.specs.Judgments.{Judge, IsFair, IsTrueIn, den}
use Rattle.gb_meaning.specs.Declared.{Declarations}
use Rattle.gb_meaning.specs.Settings.{Interpretation, setting, types_of}
use Rattle.gb_core.specs.declared.value.Value.{Value}
use Rattle.gb_meaning.specs.Memory.{Memory}
use Rattle.gb_terms.specs.declared.decl.TypedName.{TypedName}
use Rattle.gb_meaning.specs.Truth.{has_module, Truth}
use Rattle.gb_meaning.specs.Holds.{AreTrue, AreValues, context, declared_modules, interpretation, EachProgram, InEachModel, Holds}
use Rattle.gb_meaning.proofs.SettingTypes.{setting-types}
use Rattle.gb_meaning.proofs.Fronts.{without_modules}
use Rattle.gb_typing.specs.Context.{Context, Frame}
use Rattle.gb_typing.specs.Typing.{IsForm}
use Rattle.gb_typing.specs.Fits.{IsSettingOf, IsStateOf}
use Rattle.gb_typing.specs.Sequents.{IsConclusion, of_sequent, with_modules, IsTypedSequent}
use Rattle.gb_typing.specs.Scopes.{context_of, IsTypedScope}
use Rattle.gb_typing.proofs.TypedGoals.{goal_conclusion, goal_front}
use Rattle.gb_typing.proofs.Given.{refused_at, same_given}
use Rattle.gb_typing.proofs.Lifted.{InEachSequent, each, joined, sequent_outermost}
use Rattle.gb_amb.specs.Parts.{concluding}
use Rattle.gb_amb.specs.Closed.{IsAmong}
use Rattle.gb_amb.specs.Steps.{assuming, LeadTo}
use Rattle.gb_amb.proofs.Around.{Part, here, placed, hypotheses_with, IsTypedPart, IsTruePart, parts_lead_by}
use Rattle.gb_amb.proofs.Wider.{small, wider}
use Rattle.gb_meaning.specs.Meanings.{truth}
use Rattle.gb_amb.specs.Instances.{IsInstance, Says}
use Rattle.gb_amb.specs.Lemmas.{IsKnown, IsLemmaInstance, IsOfStates, generalized}
use Rattle.gb_amb.specs.Uses.{ArePremises, IsByPremises, IsAnswer, IsTypedStep}
use Rattle.gb_amb.proofs.Anywhere.{same_anywhere}
use Rattle.gb_amb.proofs.Binders.{IsTrueForAll, binders_true, binders_typed, framed}
use Rattle.gb_amb.proofs.Instances.{says_true}
use Rattle.gb_amb.proofs.UsedPremises.{premises_typed, premises_used, some_by_premises, one_by_premises}

form_conclusion : (c : Context) (f : Term) → IsForm c f → IsConclusion c f
form_conclusion c f w = goal_conclusion c [] [] (ambient f) w

form_front : (c : Context) (f : Term) → IsForm c f → has_module f ≡ false
form_front c f w = goal_front c [] [] (ambient f) w

none_some : {X : Type 0} (t : Ty) → None ≡ Some t → X
none_some t e = cc

module _ (ds : Declarations) (k : Interpretation) (s : State) where
  hypothesis_true : (hs : List Hyp) (f : Term) → IsAmong hs f → AreTrue ds hs k s → Truth ds f k s
  hypothesis_true [] f m h = absurd m
  hypothesis_true (x ∷ hs) f (inl e) h = subst (λ f. Truth ds f k s) e h.0
  hypothesis_true (x ∷ hs) f (inr m) h = hypothesis_true hs f m h.1

  all_true : (hs : List Hyp) (name : List ℕ) (f : Term) → AreTrue ds hs k s → Truth ds f k s → AreTrue ds (hs ++ record { name = name; form = f } ∷ []) k s
  all_true [] name f h t = (t, tt)
  all_true (x ∷ hs) name f h t = (h.0, all_true hs name f h.1 t)

module _ (ds : Declarations) (scope : IsTypedScope ds) (q : Sequent) (t : IsTypedSequent (context_of ds) q) where
  abbrev c : Context
  c = here ds scope q t

  abbrev base : Context
  base = with_modules (context_of ds) q.modules

  abbrev us : List Ty
  us = map (λ x. x.ty) q.logical

  abbrev ns : List Frame
  ns = map (λ l. Some l) t.frames

  here_small : c ≡ small base us ns
  here_small = sequent_outermost ds q t.frames

  abbrev part_of : Term → Part
  part_of f = record { hyps = q.hyps; conclusion = f }

  -- A form that is known of each interpretation of the goal's context: where a fact stands that each has, it is true in the states
  -- in which the hypotheses are.
  record Known (f : Term) : Type 1 where
    Fact : Interpretation → Type 0
    always : InEachSequent ds q Fact
    true_in : (k : Interpretation) → Fact k → IsSettingOf c (setting ds k) → (vs : List Value) (ms : List Memory) → IsStateOf c (setting ds k) (context vs ms) → AreTrue ds q.hyps k (context vs ms) →
        IsTrueIn (setting ds k) f (context vs ms)

  anyhow : InEachSequent ds q (λ k. Unit {0})
  anyhow w size table m = each ds (declared_modules ds) (interpretation w size table) _ (λ i. each ds q.modules i (λ k. Unit {0}) (λ k. tt))

  -- what hypotheses say of terms is true where they are
  instance_known : (f : Term) → IsInstance q c f → Known f
  instance_known f x = record {
    Fact = λ k. Unit {0};
    always = anyhow;
    true_in = λ k y fits vs ms fit h j fair.
        let g = setting ds k in
        subst (λ d. Says d x.known x.arguments f → IsForm d x.known → IsSettingOf d g → IsStateOf d g (context vs ms) → den g j f (context vs ms) ≡ true) (sym here_small)
        (λ says form fits fit. says_true base us ns g fits j fair (context vs ms) fit x.arguments x.known f says form
        ((without_modules ds x.known k (context vs ms) (form_front c x.known x.form)).0 (hypothesis_true ds k (context vs ms) q.hyps x.known x.among h) j fair))
        x.says x.form fits fit;
  }

  -- a lemma says so for all values and memories
  abbrev OfLemma : Sequent → Interpretation → Type 0
  OfLemma s k = (vs : List Value) → AreValues (types_of ds k) (map (λ x. x.ty) s.logical) vs → (ms : List Memory) → Truth ds s.conclusion k (context vs ms)

  lemma_always : (s : Sequent) → IsOfStates ds s → q.modules ≡ [] → Holds ds s → InEachSequent ds q (OfLemma s)
  lemma_always s o alone h =
      subst (λ bs. InEachModel ds (λ i. EachProgram ds bs i (OfLemma s))) (o.modules ∙ sym alone)
      (joined ds s (λ k. (vs : List Value) → AreValues (types_of ds k) (map (λ x. x.ty) s.logical) vs → (ms : List Memory) → AreTrue ds s.hyps k (context vs ms) → Truth ds s.conclusion k (context vs ms))
      (λ k. Unit {0}) (OfLemma s) (λ k f x vs v ms. f vs v ms (subst (λ hs. AreTrue ds hs k (context vs ms)) (sym o.hyps) tt)) h
      (λ w size table m. each ds (declared_modules ds) (interpretation w size table) _ (λ i. each ds s.modules i (λ k. Unit {0}) (λ k. tt))))

  -- where it is stated, and where it is used
  there_small : (s : Sequent) (o : IsOfStates ds s) → q.modules ≡ [] → of_sequent (context_of ds) s o.frames ≡ small base (map (λ x. x.ty) s.logical) (framed o.frames)
  there_small s o alone = sequent_outermost ds s o.frames ∙ ap (λ bs. small (with_modules (context_of ds) bs) (map (λ x. x.ty) s.logical) (framed o.frames)) (o.modules ∙ sym alone)

  fits_none : (g : Setting) → IsSettingOf (small base us ns) g → IsSettingOf (small base [] []) g
  fits_none g fits = record { types = record { inhabited = fits.types.inhabited; operators = fits.types.operators; distributions = fits.types.distributions }; once = fits.once; procedures = fits.procedures }

  -- a form about no variables and memories is one of the goal
  used_anywhere : (f : Term) → IsForm (small base [] []) f → IsForm (small base us ns) f
  used_anywhere f w = wider base [] [] us ns (record { variables = λ i t e. none_some t e; memories = λ i w. absurd (omega (arith, w)) }) f w

  -- What a lemma says of its arguments is true: it says it of all values and memories.
  lemma_known : (f : Term) → IsLemmaInstance ds q c f → Known f
  lemma_known f x =
      let s = x.lemma in
      let o = x.stated in
      let xs = map (λ (v : TypedName). v.ty) s.logical in
      let form : IsForm (small base xs (framed o.frames)) s.conclusion = subst (λ d. IsForm d s.conclusion) (there_small s o x.alone) o.conclusion in
      let closed : IsForm (small base [] []) (generalized x.binders s) = binders_typed base x.binders [] xs [] o.frames x.all o.values s.conclusion form in
      record {
        Fact = OfLemma s;
        always = lemma_always s o x.alone x.holds;
        true_in = λ k y fits vs ms fit h j fair.
            let g = setting ds k in
            subst (λ d. Says d (generalized x.binders s) x.arguments f → IsSettingOf d g → IsStateOf d g (context vs ms) → den g j f (context vs ms) ≡ true) (sym here_small)
            (λ says fits fit.
            let all : IsTrueForAll base g (fits_none g fits) j fair [] (generalized x.binders s) =
            binders_true base g (fits_none g fits) j fair x.binders [] xs [] o.frames x.all o.values s.conclusion form
            (λ vs w ms. (without_modules ds s.conclusion k (context vs ms) (form_front (small base xs (framed o.frames)) s.conclusion form)).0
            (y vs (subst (λ t. AreValues t xs vs) (setting-types ds k) w) ms) j fair) in
            says_true base us ns g fits j fair (context vs ms) fit x.arguments (generalized x.binders s) f says (used_anywhere (generalized x.binders s) closed)
            (ap truth (same_anywhere (small base [] []) g (fits_none g fits) j fair (generalized x.binders s) closed.typed (λ i. refl) vs ms) ∙ all [] tt ms))
            x.says fits fit;
      }

  known_by : (f : Term) → IsKnown ds q c f → Known f
  known_by f (inl x) = instance_known f x
  known_by f (inr x) = lemma_known f x

  -- a goal in the context of another one, with this form as its conclusion
  abbrev concluded : (f : Term) → IsForm c f → IsTypedSequent (context_of ds) (record q { conclusion = f })
  concluded f w = record { modules = t.modules; logical = t.logical; frames = t.frames; memories = t.memories; hyps = t.hyps; conclusion = form_conclusion c f w }

  form_holds : (f : Term) → IsForm c f → Known f → Holds ds (record q { conclusion = f })
  form_holds f w x =
      (parts_lead_by ds scope (record q { conclusion = f }) (concluded f w) x.Fact x.always [] tt
      (λ k y fits vs ms fit z h. (without_modules ds f k (context vs ms) (form_front c f w)).1 (x.true_in k y fits vs ms fit h))).leads tt

  typed_parts : (fs : List Term) → AllByRecursion (IsForm c) fs → AllByRecursion (IsTypedPart ds scope q t) (map part_of fs)
  typed_parts [] w = tt
  typed_parts (f ∷ fs) w = ((t.hyps, form_conclusion c f w.0), typed_parts fs w.1)

  true_parts : (k : Interpretation) (s : State) (fs : List Term) → AllByRecursion (IsForm c) fs → AllByRecursion (IsTruePart ds scope q t k s) (map part_of fs) → AreTrue ds q.hyps k s →
      (j : Judge) → IsFair (setting ds k) j → AllByRecursion (λ a. den (setting ds k) j a s ≡ true) fs
  true_parts k s [] w x h j fair = tt
  true_parts k s (f ∷ fs) w x h j fair = ((without_modules ds f k s (form_front c f w.0)).0 (x.0 h) j fair, true_parts k s fs w.1 x.1 h j fair)

  same_goals : (fs : List Term) → map (placed ds scope q t) (map part_of fs) ≡ map (concluding q) fs
  same_goals [] = refl
  same_goals (f ∷ fs) = ap (λ qs. concluding q f ∷ qs) (same_goals fs)

  by_premises : (f : Term) → IsForm c f → Known f → (hs : List Term) → ArePremises hs f q.conclusion → LeadTo ds q (map (concluding q) hs)
  by_premises f w x hs p =
      let v = premises_typed c hs f q.conclusion p w in
      subst (LeadTo ds q) (same_goals hs)
      (parts_lead_by ds scope q t x.Fact x.always (map part_of hs) (typed_parts hs v.0)
      (λ k y fits vs ms fit z h. (without_modules ds q.conclusion k (context vs ms) (form_front c q.conclusion v.1)).1
      (λ j fair. premises_used c (setting ds k) j (context vs ms) hs f q.conclusion p w (x.true_in k y fits vs ms fit h j fair) (true_parts k (context vs ms) hs v.0 z h j fair))))

  of_premises : (f : Term) → IsForm c f → Known f → (place : Place) (qs : List Sequent) → IsByPremises [] f place q (given qs) → LeadTo ds q qs
  of_premises f w x place qs (inl (hs, p, e)) = subst (LeadTo ds q) (sym (same_given qs (map (concluding q) hs) e)) (by_premises f w x hs p)
  of_premises f w x place qs (inr (n, e)) = refused_at Shape place qs (sym e)

  by_hypothesis : (name : List ℕ) (f : Term) → IsForm c f → Known f → LeadTo ds q (assuming q name f ∷ [])
  by_hypothesis name f w x =
      parts_lead_by ds scope q t x.Fact x.always (record { hyps = q.hyps ++ record { name = name; form = f } ∷ []; conclusion = q.conclusion } ∷ [])
      ((hypotheses_with c q.hyps name f t.hyps w, t.conclusion), tt)
      (λ k y fits vs ms fit z h. z.0 (all_true ds k (context vs ms) q.hyps name f h ((without_modules ds f k (context vs ms) (form_front c f w)).1 (x.true_in k y fits vs ms fit h))))

  of_step : (r : UseRule) → IsTypedStep ds q c r → (place : Place) (qs : List Sequent) → IsAnswer r place q (given qs) → LeadTo ds q qs
  of_step (Apply f) w place qs a = of_premises f w.form (known_by f w.known) place qs a
  of_step (Have name f) w place qs e = subst (LeadTo ds q) (sym (same_given qs (assuming q name f ∷ []) e)) (by_hypothesis name f w.form (known_by f w.known))

pub instance_holds : (ds : Declarations) → IsTypedScope ds → (q : Sequent) (t : IsTypedSequent (context_of ds) q) → (f : Term) →
    IsForm (of_sequent (context_of ds) q t.frames) f → IsKnown ds q (of_sequent (context_of ds) q t.frames) f → Holds ds (record q { conclusion = f })
instance_holds ds scope q t f w x = form_holds ds scope q t f w (known_by ds scope q t f x)

pub steps_sound : (ds : Declarations) → IsTypedScope ds → (q : Sequent) (t : IsTypedSequent (context_of ds) q) → (r : UseRule) →
    IsTypedStep ds q (of_sequent (context_of ds) q t.frames) r → (place : Place) (qs : List Sequent) → IsAnswer r place q (given qs) → LeadTo ds q qs
steps_sound ds scope q t r w place qs a = of_step ds scope q t r w place qs a

-- Answers.

pub some_answer : (r : UseRule) (place : Place) (q : Sequent) → (x : Answer (List Sequent)) × IsAnswer r place q x
some_answer (Apply f) place q = some_by_premises [] f place q
some_answer (Have name f) place q = (given (assuming q name f ∷ []), refl)

pub one_answer : (r : UseRule) (place : Place) (q : Sequent) (x y : Answer (List Sequent)) → IsAnswer r place q x → IsAnswer r place q y → x ≡ y
one_answer (Apply f) place q x y h k = one_by_premises [] f place q x y h k
one_answer (Have name f) place q x y h k = h ∙ sym k
