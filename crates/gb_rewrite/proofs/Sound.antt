-- Rules that put equals for equals are sound.
use Rattle.std.proofs.Common.{◌≡◌, ℕ, zero, suc, Bool, true, false, ◌&&◌, if◌then◌else◌, inr, List, [], ◌∷◌, map, slice_get, Option, Some, None, refl, ap, sym, ◌∙◌, subst}
use Rattle.std.specs.List.{list_any}
use Rattle.std.specs.Option.{option_map}
use Rattle.std.proofs.lemmas.Bool.{false≢true}
use Rattle.gb_core.specs.declared.place.Place.{Place}
use Rattle.gb_core.specs.declared.refusal.Why.TheVariants.{Shape}
use Rattle.gb_terms.specs.declared.term.Term.{Term}
use Rattle.gb_goal.specs.Scope as entries
use Rattle.gb_goal.specs.Answers.Answer.{given, refused}
use Rattle.gb_goal.specs.Goal.Goal.{ambient}
use Rattle.gb_goal.specs.declared.sequent.Hyp.{Hyp}
use Rattle.gb_goal.specs.declared.sequent.Sequent.{Sequent}
use Rattle.gb_steps.specs.declared.step.EventLaw.{EventLaw}
use Rattle.gb_steps.specs.declared.step.RewriteRule.{RewriteRule}
use Rattle.gb_steps.specs.declared.step.RewriteRule.TheVariants.{Forward, Back, Subst, Unfold, Law}
use Rattle.gb_dist.specs.WeightedList.{total}
use Rattle.gb_meaning.specs.Names.{Name}
use Rattle.gb_meaning.specs.Setting.{Meaning, Setting}
use Rattle.gb_meaning.specs.State.{State}
use Rattle.gb_meaning.specs.Terms.{val}
use Rattle.gb_meaning.specs.Judgments.{Judge, IsFair, outcome_denominator, outcomes_of, speaking}
use Rattle.gb_laws.specs.Context.{AreOf}
use Rattle.gb_laws.specs.Finite.{IsInhabited}
use Rattle.gb_laws.specs.Operators.{IsNoDistribution}
use Rattle.gb_laws.specs.Typing.{OperatorType}
use Rattle.gb_meaning.specs.Declared.{Declarations, declared}
use Rattle.gb_meaning.specs.Settings.{Interpretation, setting}
use Rattle.gb_meaning.specs.Truth.{has_module, Truth}
use Rattle.gb_meaning.specs.Holds.{AreTrue, Holds, context}
use Rattle.gb_meaning.proofs.SettingTypes.{setting-types}
use Rattle.gb_meaning.proofs.Fronts.{without_modules}
use Rattle.gb_typing.specs.Context.{Context}
use Rattle.gb_typing.specs.Typing.{IsTyped, IsForm}
use Rattle.gb_typing.specs.Fits.{IsSettingOf, IsStateOf}
use Rattle.gb_typing.specs.Sequents.{IsConclusion, AreHypotheses, IsTypedSequent}
use Rattle.gb_typing.specs.Scopes.{context_of, IsTypedScope}
use Rattle.gb_typing.specs.Chosen.{IsChosenOver}
use Rattle.gb_typing.specs.Rules.{IsSettingOver, outermost}
use Rattle.gb_typing.proofs.Models.{each_chosen}
use Rattle.gb_typing.proofs.TypedGoals.{goal_conclusion, goal_front}
use Rattle.gb_typing.proofs.Given.{refused_at, same_given}
use Rattle.gb_typing.proofs.Lifted.{InEachSequent, joined, sequent_outermost}
use Rattle.gb_amb.specs.Parts.{concluding}
use Rattle.gb_amb.specs.Quantified.{quantifies_modules, goal_quantifies_modules}
use Rattle.gb_amb.specs.Steps.{LeadTo}
use Rattle.gb_amb.proofs.Around.{Part, here, parts_lead, parts_lead_by}
use Rattle.gb_smt_laws.specs.Alike.{Alike, AllAlike, RespectAlike}
use Rattle.gb_smt_laws.proofs.Alike.{alike_turned}
use Rattle.gb_smt_laws.proofs.Respects.{scope_respects}
use Rattle.gb_smt_laws.proofs.Results.{HasResults, each_results}
use Rattle.gb_amb.proofs.Fronts.{first, none_in_front}
use Rattle.gb_rewrite.specs.Rewritten.{rewritten, stands}
use Rattle.gb_rewrite.specs.Equations.{Pair, exchanged, equation_of, equivalence_of, is_variable_apart, used_up, used_up_of}
use Rattle.gb_rewrite.specs.Rewriting.{rewriting, rewriting_by, rewriting_back, others, hypothesis_rewritten, without, using_up, using_up_hypothesis, substituting, unfolded_everywhere, opening_by, opening, concluding_by, by_event_law, rewrite_answer, IsUsable}
use Rattle.gb_rewrite.specs.Unfolded.{names, unfolded}
use Rattle.gb_rewrite.proofs.Kept.{form_kept}
use Rattle.gb_full.proofs.Full.{procedure_whole}
use Rattle.gb_rewrite.specs.Events.{by_first, IsTypedLaw}
use Rattle.gb_rewrite.proofs.Layered.{Becomes}
use Rattle.gb_rewrite.proofs.Moved.{IsMoved, Preserves, conclusion_becomes, form_moved, conclusion_moved}
use Rattle.gb_rewrite.proofs.Weighing.{HasWhole}
use Rattle.gb_rewrite.proofs.Yielded.{AreKnown, law_keeps}
use Rattle.gb_rewrite.proofs.Everywhere.{programs_moved}
use Rattle.gb_rewrite.proofs.Opened.{MeansBody, opened}
use Rattle.gb_rewrite.proofs.Replaced.{AreEqual, replaced}
use Rattle.gb_rewrite.proofs.Sides.{AreSides, IsSaidBy, said_by, said_by_equation}
use Rattle.gb_rewrite.proofs.Standing.{IsStanding, body_stands, modules_leave}
use Rattle.gb_eval.specs.Script.{body_named}
use Rattle.gb_smt_laws.proofs.Bodies.{scope_bodies}

form_conclusion : (c : Context) (f : Term) → IsForm c f → IsConclusion c f
form_conclusion c f w = goal_conclusion c [] [] (ambient f) w

form_front : (c : Context) (f : Term) → IsForm c f → has_module f ≡ false
form_front c f w = goal_front c [] [] (ambient f) w

in_some : {A : Type 0} (x y : A) → ◌≡◌ {A = Option A} (Some x) (Some y) → x ≡ y
in_some {A} x y e = ap or_this e
  where
    or_this : Option A → A
    or_this None = x
    or_this (Some z) = z

none_some : {A X : Type 0} (y : A) → ◌≡◌ {A = Option A} None (Some y) → X
none_some y e = cc

exchanged_sides : (c : Context) (f a b : Term) → IsSaidBy c f a b → IsSaidBy c f b a
exchanged_sides c f a b x = record {
  sides = record { left = x.sides.right; right = x.sides.left; type = sym x.sides.type; single = subst IsNoDistribution x.sides.type x.sides.single };
  alike = λ g fits j s fit h. alike_turned (val g (speaking g j) a s) (val g (speaking g j) b s) (x.alike g fits j s fit h);
}

-- tests

both_true : (a b : Bool) → (a && b) ≡ true → (a ≡ true) × (b ≡ true)
both_true true b e = (refl, e)
both_true false b e = absurd (false≢true e)

module _ (ds : Declarations) (scope : IsTypedScope ds) (q : Sequent) (t : IsTypedSequent (context_of ds) q) where
  abbrev c : Context
  c = here ds scope q t

  outer : c ≡ outermost c
  outer = sequent_outermost ds q t.frames

  -- settings in which operators of the script give the same from the same
  respects : (k : Interpretation) → HasResults ds k → IsSettingOf c (setting ds k) → RespectAlike (outermost c) (setting ds k)
  respects k results fits =
      subst (λ f. (n : Name) (o : OperatorType) → f n ≡ Some o → (xs ys : List Meaning) → AreOf (setting ds k).types o.params xs → AreOf (setting ds k).types o.params ys → AllAlike xs ys →
      Alike ((setting ds k).operator n xs) ((setting ds k).operator n ys)) (sym (modules_leave q.modules (context_of ds)))
      (scope_respects ds k scope (subst IsInhabited (setting-types ds k) fits.types.inhabited) results)

  -- one term in place of another one
  module _ (f a b : Term) (w : IsForm c f) (said : IsSaidBy c f a b) where
    abbrev moved : Term → Term
    moved x = rewritten a b x

    abbrev At : Setting → Judge → State → Type 0
    At = AreEqual (outermost c) a b

    abbrev Moves : Context → Term → Type 0
    Moves d x = IsMoved d At x (moved x)

    kept : Preserves c moved At
    kept = replaced c a b (subst (λ d. AreSides d a b) outer said.sides)

    of_form : (x : Term) → IsForm c x → Moves c x
    of_form x v = subst (λ d. Moves d x) (sym outer) (form_moved c moved At kept x (subst (λ d. IsForm d x) outer v))

    of_conclusion : has_module q.conclusion ≡ false → Moves c q.conclusion
    of_conclusion m =
        subst (λ d. Moves d q.conclusion) (sym outer) (conclusion_moved c moved At kept q.conclusion (subst (λ d. IsConclusion d q.conclusion) outer t.conclusion) m)

    module _ (k : Interpretation) (results : HasResults ds k) (fits : IsSettingOf c (setting ds k)) (s : State) (fit : IsStateOf c (setting ds k) s) (holds : Truth ds f k s) where
      equal : (j : Judge) → IsFair (setting ds k) j → At (setting ds k) j s
      equal j fair = (respects k results fits, said.alike (setting ds k) fits j s fit ((without_modules ds f k s (form_front c f w)).0 holds j fair))

      there : (x : Term) → has_module x ≡ false → Moves c x → Truth ds x k s → Truth ds (moved x) k s
      there x o m h = (without_modules ds (moved x) k s m.front).1 (λ j fair. m.same (setting ds k) fits j fair s fit (equal j fair) ∙ (without_modules ds x k s o).0 h j fair)

      back : (x : Term) → has_module x ≡ false → Moves c x → Truth ds (moved x) k s → Truth ds x k s
      back x o m h = (without_modules ds x k s o).1 (λ j fair. sym (m.same (setting ds k) fits j fair s fit (equal j fair)) ∙ (without_modules ds (moved x) k s m.front).0 h j fair)

  -- In the conclusion.
  module _ (f : Term) (w : IsForm c f) (known : Holds ds (concluding q f)) where
    in_conclusion : (a b : Term) → IsSaidBy c f a b → has_module q.conclusion ≡ false → LeadTo ds q (concluding q (rewritten a b q.conclusion) ∷ [])
    in_conclusion a b said o =
        let part : Term → Part = λ x. record { hyps = q.hyps; conclusion = x } in
        let m = of_conclusion f a b w said o in
        let both = parts_lead_by ds scope q t (HasResults ds) (each_results ds scope q) (part f ∷ part (rewritten a b q.conclusion) ∷ [])
        ((t.hyps, form_conclusion c f w), ((t.hyps, m.typed), tt))
        (λ k results fits vs ms fit x h. back f a b w said k results fits (context vs ms) fit (x.0 h) q.conclusion o m (x.1.0 h)) in
        record { typed = (both.typed.1.0, tt); leads = λ h. both.leads (known, (h.0, tt)) }

    by_pair : (p : Pair) → IsSaidBy c f p.0 p.1 → (place : Place) (qs : List Sequent) → given qs ≡ rewriting place q (Some p) → LeadTo ds q qs
    by_pair p said place qs e = step (quantifies_modules q.conclusion) refl e
      where
        inner : (b : Bool) → stands p.0 q.conclusion ≡ b → quantifies_modules q.conclusion ≡ false →
            given qs ≡ (if b then given (concluding q (rewritten p.0 p.1 q.conclusion) ∷ []) else refused Shape place) → LeadTo ds q qs
        inner false y m e = refused_at Shape place qs (sym e)
        inner true y m e = subst (LeadTo ds q) (sym (same_given qs _ e)) (in_conclusion p.0 p.1 said (none_in_front q.conclusion m))

        step : (b : Bool) → quantifies_modules q.conclusion ≡ b →
            given qs ≡ (if b then refused Shape place else if stands p.0 q.conclusion then given (concluding q (rewritten p.0 p.1 q.conclusion) ∷ []) else refused Shape place) → LeadTo ds q qs
        step true m e = refused_at Shape place qs (sym e)
        step false m e = inner (stands p.0 q.conclusion) refl m e

    rewriting_sound : (place : Place) (qs : List Sequent) → given qs ≡ rewriting_by f place q → LeadTo ds q qs
    rewriting_sound place qs e = step (equivalence_of f) refl e
      where
        step : (o : Option Pair) → equivalence_of f ≡ o → given qs ≡ rewriting place q o → LeadTo ds q qs
        step None u e = refused_at Shape place qs (sym e)
        step (Some (a, b)) u e = by_pair (a, b) (said_by c f a b w.typed u) place qs e

    back_sound : (place : Place) (qs : List Sequent) → given qs ≡ rewriting_back f place q → LeadTo ds q qs
    back_sound place qs e = step (equivalence_of f) refl e
      where
        step : (o : Option Pair) → equivalence_of f ≡ o → given qs ≡ rewriting place q (option_map exchanged o) → LeadTo ds q qs
        step None u e = refused_at Shape place qs (sym e)
        step (Some (a, b)) u e = by_pair (b, a) (exchanged_sides c f a b (said_by c f a b w.typed u)) place qs e

  -- Everywhere, by a hypothesis.

  one_of : (hs : List Hyp) (i : ℕ) (h : Hyp) → slice_get hs i ≡ Some h → AreHypotheses c hs → IsForm c h.form
  one_of [] i h e w = none_some h e
  one_of (x ∷ hs) zero h e w = subst (λ y. IsForm c y.form) (in_some x h e) w.0
  one_of (x ∷ hs) (suc i) h e w = one_of hs i h e w.1

  one_true : (k : Interpretation) (s : State) (hs : List Hyp) (i : ℕ) (h : Hyp) → slice_get hs i ≡ Some h → AreTrue ds hs k s → Truth ds h.form k s
  one_true k s [] i h e w = none_some h e
  one_true k s (x ∷ hs) zero h e w = subst (λ y. Truth ds y.form k s) (in_some x h e) w.0
  one_true k s (x ∷ hs) (suc i) h e w = one_true k s hs i h e w.1

  module _ (f a b : Term) (w : IsForm c f) (said : IsSaidBy c f a b) where
    moved_typed : (x : Term) → IsForm c x → IsForm c (rewritten a b x)
    moved_typed x v = subst (λ d. IsForm d (rewritten a b x)) (sym outer) (form_kept c a b (subst (λ d. IsTyped d b) outer said.sides.right) said.sides.type x (subst (λ d. IsForm d x) outer v))

    all_typed : (i : ℕ) (hs : List Hyp) → AreHypotheses c hs → AreHypotheses c (map (hypothesis_rewritten (a, b)) (others i hs))
    all_typed i [] v = tt
    all_typed zero (h ∷ hs) v = each hs v.1
      where
        each : (hs : List Hyp) → AreHypotheses c hs → AreHypotheses c (map (hypothesis_rewritten (a, b)) hs)
        each [] v = tt
        each (h ∷ hs) v = (moved_typed h.form v.0, each hs v.1)
    all_typed (suc i) (h ∷ hs) v = (moved_typed h.form v.0, all_typed i hs v.1)

    module _ (k : Interpretation) (results : HasResults ds k) (fits : IsSettingOf c (setting ds k)) (s : State) (fit : IsStateOf c (setting ds k) s) (holds : Truth ds f k s) where
      each_true : (hs : List Hyp) → AreHypotheses c hs → AreTrue ds hs k s → AreTrue ds (map (hypothesis_rewritten (a, b)) hs) k s
      each_true [] v h = tt
      each_true (x ∷ hs) v h = (there f a b w said k results fits s fit holds x.form (form_front c x.form v.0) (of_form f a b w said x.form v.0) h.0, each_true hs v.1 h.1)

      others_true : (i : ℕ) (hs : List Hyp) → AreHypotheses c hs → AreTrue ds hs k s → AreTrue ds (map (hypothesis_rewritten (a, b)) (others i hs)) k s
      others_true i [] v h = tt
      others_true zero (x ∷ hs) v h = each_true hs v.1 h.1
      others_true (suc i) (x ∷ hs) v h = (there f a b w said k results fits s fit holds x.form (form_front c x.form v.0) (of_form f a b w said x.form v.0) h.0, others_true i hs v.1 h.1)

    everywhere : (i : ℕ) (h : Hyp) → slice_get q.hyps i ≡ Some h → h.form ≡ f → AreHypotheses c q.hyps → has_module q.conclusion ≡ false → LeadTo ds q (without i q (a, b) ∷ [])
    everywhere i h at is hs o =
        let m = of_conclusion f a b w said o in
        parts_lead_by ds scope q t (HasResults ds) (each_results ds scope q) (record { hyps = map (hypothesis_rewritten (a, b)) (others i q.hyps); conclusion = rewritten a b q.conclusion } ∷ [])
        ((all_typed i q.hyps hs, m.typed), tt)
        (λ k results fits vs ms fit x y.
        let s = context vs ms in
        let holds : Truth ds f k s = subst (λ z. Truth ds z k s) is (one_true k s q.hyps i h at y) in
        back f a b w said k results fits s fit holds q.conclusion o m (x.0 (others_true k results fits s fit holds i q.hyps hs y)))

  -- what an equation is used up for: a variable, and the term that takes its place
  of_sides : (f a b : Term) → IsSaidBy c f a b → (p : Pair) → used_up (a, b) ≡ Some p → IsSaidBy c f p.0 p.1
  of_sides f a b said p e = first_side (is_variable_apart b a) e
    where
      second_side : (z : Bool) → (if z then Some (a, b) else None) ≡ Some p → IsSaidBy c f p.0 p.1
      second_side true e = subst (λ x. IsSaidBy c f x.0 x.1) (in_some (a, b) p e) said
      second_side false e = none_some p e

      first_side : (z : Bool) → (if z then Some (b, a) else if is_variable_apart a b then Some (a, b) else None) ≡ Some p → IsSaidBy c f p.0 p.1
      first_side true e = subst (λ x. IsSaidBy c f x.0 x.1) (in_some (b, a) p e) (exchanged_sides c f a b said)
      first_side false e = second_side (is_variable_apart a b) e

  of_equation : (f : Term) → IsTyped c f → (o : Option Pair) → equation_of f ≡ o → (p : Pair) → used_up_of o ≡ Some p → IsSaidBy c f p.0 p.1
  of_equation f w None u p e = none_some p e
  of_equation f w (Some (a, b)) u p e = of_sides f a b (said_by_equation c f a b w u) p e

  of_hypothesis : (i : ℕ) (place : Place) (h : Hyp) → slice_get q.hyps i ≡ Some h → (o : Option Pair) → used_up_of (equation_of h.form) ≡ o → (qs : List Sequent) →
      given qs ≡ using_up i place q o → LeadTo ds q qs
  of_hypothesis i place h at None u qs e = refused_at Shape place qs (sym e)
  of_hypothesis i place h at (Some p) u qs e = step (goal_quantifies_modules q) refl e
    where
      step : (b : Bool) → goal_quantifies_modules q ≡ b → given qs ≡ (if b then refused Shape place else given (without i q p ∷ [])) → LeadTo ds q qs
      step true m e = refused_at Shape place qs (sym e)
      step false m e =
          let o = none_in_front q.conclusion (first (quantifies_modules q.conclusion) (list_any (λ h. quantifies_modules h.form) q.hyps) m) in
          let form = one_of q.hyps i h at t.hyps in
          let said = of_equation h.form form.typed (equation_of h.form) refl p u in
          subst (LeadTo ds q) (sym (same_given qs _ e)) (everywhere h.form p.0 p.1 form said i h at refl t.hyps o)

  substitution_sound : (i : ℕ) (place : Place) (qs : List Sequent) → given qs ≡ substituting i place q → LeadTo ds q qs
  substitution_sound i place qs e = step (slice_get q.hyps i) refl e
    where
      step : (o : Option Hyp) → slice_get q.hyps i ≡ o → given qs ≡ using_up_hypothesis i place q o → LeadTo ds q qs
      step None u e = refused_at Shape place qs (sym e)
      step (Some h) u e = of_hypothesis i place h u (used_up_of (equation_of h.form)) refl qs e

module _ (es : entries.Declarations) (scope : IsTypedScope (declared es)) (q : Sequent) (t : IsTypedSequent (context_of (declared es)) q) where
  abbrev around_goal : Context
  around_goal = here (declared es) scope q t

  -- An operator's body in place of its applications in the conclusion.
  module _ (x : Name) (b : Term) (found : body_named es x ≡ Some b) where
    at_goal : around_goal ≡ outermost around_goal
    at_goal = sequent_outermost (declared es) q t.frames

    kept_by_body : Preserves around_goal (unfolded x b) (MeansBody x b)
    kept_by_body = opened x around_goal b (subst (λ d. IsStanding d x b) at_goal (body_stands es scope q t.frames x b found))

    unfolded_moves : has_module q.conclusion ≡ false → IsMoved around_goal (MeansBody x b) q.conclusion (unfolded x b q.conclusion)
    unfolded_moves o =
        subst (λ d. IsMoved d (MeansBody x b) q.conclusion (unfolded x b q.conclusion)) (sym at_goal)
        (conclusion_moved around_goal (unfolded x b) (MeansBody x b) kept_by_body q.conclusion (subst (λ d. IsConclusion d q.conclusion) at_goal t.conclusion) o)

    everywhere_moves : has_module q.conclusion ≡ false → IsMoved around_goal (MeansBody x b) q.conclusion (unfolded_everywhere x b q.conclusion)
    everywhere_moves o =
        let m = unfolded_moves o in
        let n = programs_moved x b around_goal (body_stands es scope q t.frames x b found) (unfolded x b q.conclusion) m.typed m.front in
        record { typed = n.typed; front = n.front; same = λ g fits j fair s placed e. n.same g fits j fair s placed e ∙ m.same g fits j fair s placed e }

    unfolded_leads : has_module q.conclusion ≡ false → LeadTo (declared es) q (concluding q (unfolded_everywhere x b q.conclusion) ∷ [])
    unfolded_leads o =
        let m = everywhere_moves o in
        parts_lead (declared es) scope q t (record { hyps = q.hyps; conclusion = unfolded_everywhere x b q.conclusion } ∷ []) ((t.hyps, m.typed), tt)
        (λ k fits s fit y h. (without_modules (declared es) q.conclusion k s o).1
        (λ j fair.
        sym (m.same (setting (declared es) k) fits j fair s fit (scope_bodies es k scope x b found))
        ∙ (without_modules (declared es) (unfolded_everywhere x b q.conclusion) k s m.front).0 (y.0 h) j fair))

    by_tests : (z : Bool) → names x q.conclusion ≡ z → quantifies_modules q.conclusion ≡ false → (place : Place) (qs : List Sequent) →
        given qs ≡ (if z then given (concluding q (unfolded_everywhere x b q.conclusion) ∷ []) else refused Shape place) → LeadTo (declared es) q qs
    by_tests true u m place qs e =
        subst (LeadTo (declared es) q) (sym (same_given qs _ e))
        (unfolded_leads (none_in_front q.conclusion m))
    by_tests false u m place qs e = refused_at Shape place qs (sym e)

    by_modules : (z : Bool) → quantifies_modules q.conclusion ≡ z → (place : Place) (qs : List Sequent) →
        given qs ≡ (if z then refused Shape place else if names x q.conclusion then given (concluding q (unfolded_everywhere x b q.conclusion) ∷ []) else refused Shape place) →
        LeadTo (declared es) q qs
    by_modules true m place qs e = refused_at Shape place qs (sym e)
    by_modules false m place qs e = by_tests (names x q.conclusion) refl m place qs e

  opening_sound : (x : Name) (place : Place) (qs : List Sequent) → given qs ≡ opening es x place q → LeadTo (declared es) q qs
  opening_sound x place qs e = step (body_named es x) refl e
    where
      step : (o : Option Term) → body_named es x ≡ o → given qs ≡ opening_by x place q o → LeadTo (declared es) q qs
      step None u h = refused_at Shape place qs (sym h)
      step (Some b) u h = by_modules x b u (quantifies_modules q.conclusion) refl place qs h

  -- A law of events at the first probability of the conclusion that it speaks of.

  abbrev Known : Interpretation → Type 0
  Known k = HasResults (declared es) k × IsChosenOver (declared es) k

  module _ (k : Interpretation) (chosen : IsChosenOver (declared es) k) (fits : IsSettingOf around_goal (setting (declared es) k)) where
    whole : HasWhole es (setting (declared es) k)
    whole p e vs m =
        let over : IsSettingOver (declared es) (setting (declared es) k) = record { interpretation = k; chosen = chosen; meant = refl } in
        let x = procedure_whole es scope q t (setting (declared es) k) fits over p e in
        subst (λ o. total (outcomes_of (setting (declared es) k) o vs m) ≡ outcome_denominator (setting (declared es) k) o) (sym x.there) (x.total vs m.globals)

  known : InEachSequent (declared es) q Known
  known =
      joined (declared es) q (HasResults (declared es)) (IsChosenOver (declared es)) Known (λ k x y. (x, y)) (each_results (declared es) scope q)
      (each_chosen (declared es) scope q t.modules t.frames)

  module _ (l : EventLaw) (w : IsTypedLaw around_goal l) (x : Term) (e : by_first es l q.conclusion ≡ Some x) (o : has_module q.conclusion ≡ false) where
    goal_outer : around_goal ≡ outermost around_goal
    goal_outer = sequent_outermost (declared es) q t.frames

    typed_law : IsTypedLaw (outermost around_goal) l
    typed_law = subst (λ d. IsTypedLaw d l) goal_outer w

    law_moves : IsMoved around_goal (AreKnown es l around_goal typed_law) q.conclusion x
    law_moves =
        subst (λ d. IsMoved d (AreKnown es l around_goal typed_law) q.conclusion x) (sym goal_outer)
        (conclusion_becomes around_goal (Becomes es l) (AreKnown es l around_goal typed_law) (law_keeps es l around_goal typed_law) q.conclusion x (inr e)
        (subst (λ d. IsConclusion d q.conclusion) goal_outer t.conclusion) o)

    law_leads : LeadTo (declared es) q (concluding q x ∷ [])
    law_leads =
        let m = law_moves in
        parts_lead_by (declared es) scope q t Known known (record { hyps = q.hyps; conclusion = x } ∷ []) ((t.hyps, m.typed), tt)
        (λ k f fits vs ms fit y h.
        let g = setting (declared es) k in
        (without_modules (declared es) q.conclusion k (context vs ms) o).1
        (λ j fair. sym (m.same g fits j fair (context vs ms) fit (respects (declared es) scope q t k f.0 fits, whole k f.1 fits)) ∙ (without_modules (declared es) x k (context vs ms) m.front).0 (y.0 h) j fair))

  law_sound : (l : EventLaw) → IsTypedLaw around_goal l → (place : Place) (qs : List Sequent) → given qs ≡ by_event_law es l place q → LeadTo (declared es) q qs
  law_sound l w place qs e = by_quantifier (quantifies_modules q.conclusion) refl e
    where
      by_found : (z : Option Term) → by_first es l q.conclusion ≡ z → has_module q.conclusion ≡ false → given qs ≡ concluding_by place q z → LeadTo (declared es) q qs
      by_found None u o h = refused_at Shape place qs (sym h)
      by_found (Some x) u o h = subst (LeadTo (declared es) q) (sym (same_given qs _ h)) (law_leads l w x u o)

      by_quantifier : (b : Bool) → quantifies_modules q.conclusion ≡ b → given qs ≡ (if b then refused Shape place else concluding_by place q (by_first es l q.conclusion)) → LeadTo (declared es) q qs
      by_quantifier true m h = refused_at Shape place qs (sym h)
      by_quantifier false m h = by_found (by_first es l q.conclusion) refl (none_in_front q.conclusion m) h

  pub steps_sound : (r : RewriteRule) → IsUsable (declared es) q around_goal r → (place : Place) (qs : List Sequent) → given qs ≡ rewrite_answer es r place q → LeadTo (declared es) q qs
  steps_sound (Forward f) w place qs e = rewriting_sound (declared es) scope q t f w.0 w.1 place qs e
  steps_sound (Back f) w place qs e = back_sound (declared es) scope q t f w.0 w.1 place qs e
  steps_sound (Subst i) w place qs e = substitution_sound (declared es) scope q t i place qs e
  steps_sound (Unfold x) w place qs e = opening_sound x place qs e
  steps_sound (Law l) w place qs e = law_sound l w place qs e
