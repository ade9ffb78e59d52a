-- The loops of the goals to which steps lead that put equals for equals.
use Rattle.std.proofs.Common.{◌≡◌, ℕ, zero, suc, Bool, true, false, if◌then◌else◌, List, [], ◌∷◌, Option, Some, None, refl, ap, sym, ◌∙◌, subst}
use Rattle.std.specs.List.{AllByRecursion, slice_get}
use Rattle.std.specs.Option.{option_map}
use Rattle.gb_core.specs.declared.place.Place.{Place}
use Rattle.gb_core.specs.declared.refusal.Why.TheVariants.{Shape}
use Rattle.gb_core.specs.declared.ty.Ty.{Ty}
use Rattle.gb_terms.specs.declared.op.Op.TheVariants.{Equal}
use Rattle.gb_terms.specs.declared.term.Head.{Head}
use Rattle.gb_terms.specs.declared.term.Head.TheVariants as head
use Rattle.gb_terms.specs.declared.term.Head.TheVariants.{Proc, Body'}
use Rattle.gb_terms.specs.declared.term.Subject.{Subject}
use Rattle.gb_terms.specs.declared.term.Term.{Term, Term', end_of-Head, more_of-Head, out-Term}
use Rattle.gb_terms.specs.Make.{node}
use Rattle.gb_goal.specs.Answers.Answer.{given, refused}
use Rattle.gb_goal.specs.Goal.{goal_of}
use Rattle.gb_goal.specs.Scope as scope
use Rattle.gb_goal.specs.declared.sequent.Hyp.{Hyp}
use Rattle.gb_goal.specs.declared.sequent.Sequent.{Sequent}
use Rattle.gb_steps.specs.declared.step.EventLaw.{EventLaw}
use Rattle.gb_steps.specs.declared.step.RewriteRule.{RewriteRule}
use Rattle.gb_steps.specs.declared.step.RewriteRule.TheVariants.{Forward, Back, Subst, Unfold, Law}
use Rattle.gb_meaning.specs.Names.{Name}
use Rattle.gb_meaning.specs.Setting.{Setting}
use Rattle.gb_laws.proofs.Trees.{out_is}
use Rattle.gb_eval.specs.Meant.{IsBody}
use Rattle.gb_eval.specs.Script.{body_named}
use Rattle.gb_meaning.specs.Declared.{Declarations, declared}
use Rattle.gb_meaning.specs.Settings.{setting}
use Rattle.gb_meaning.specs.Truth.{has_module}
use Rattle.gb_laws.proofs.Exact.{trying}
use Rattle.gb_laws.proofs.Fair.{is_fair}
use Rattle.gb_typing.specs.Context.{Context}
use Rattle.gb_typing.specs.Fits.{IsSettingOf}
use Rattle.gb_typing.specs.Rules.{outermost}
use Rattle.gb_typing.specs.Scopes.{context_of, IsTypedScope}
use Rattle.gb_typing.specs.Sequents.{AreHypotheses, IsConclusion, of_sequent, IsTypedSequent}
use Rattle.gb_typing.specs.Typing.{IsForm}
use Rattle.gb_typing.proofs.Conclusions.{formula_form}
use Rattle.gb_typing.proofs.Given.{refused_at, same_given}
use Rattle.gb_typing.proofs.Lifted.{InEachSequent, joined, sequent_outermost}
use Rattle.gb_typing.proofs.Models.{each_setting}
use Rattle.gb_typing.proofs.Shapes.{node_out}
use Rattle.gb_prog.specs.Ends.{LoopsEnd, SequentEnds}
use Rattle.gb_prog.specs.Same.{is_same}
use Rattle.gb_smt_laws.proofs.Bodies.{scope_bodies}
use Rattle.gb_amb.specs.Parts.{concluding}
use Rattle.gb_amb.specs.Quantified.{goal_quantifies_modules, quantifies_modules}
use Rattle.gb_amb.proofs.Fronts.{none_in_front}
use Rattle.gb_rewrite.specs.Equations.{Pair, equation_at, equation_of, equivalence_of, exchanged, is_variable_apart, used_up, used_up_of}
use Rattle.gb_rewrite.specs.Events.{by_first}
use Rattle.gb_rewrite.specs.Rewriting.{IsUsable, by_event_law, concluding_by, opening_by, rewrite_answer, rewriting, unfolded_everywhere, using_up, using_up_hypothesis, without}
use Rattle.gb_rewrite.specs.Rewritten.{rewritten, stands}
use Rattle.gb_rewrite.specs.Unfolded.{head_unfolded, names, programs_unfolded, subject_unfolded, unfolded}
use Rattle.gb_rewrite.proofs.Opened.{opened}
use Rattle.gb_rewrite.proofs.Sides.{said_by, said_by_equation}
use Rattle.gb_rewrite.proofs.Standing.{IsStanding, body_stands}
use Rattle.gb_rewrite.proofs.Statements.{programs_out}
use Rattle.gb_accepted.proofs.EventsEnd.{first_ends}
use Rattle.gb_accepted.proofs.HeadsEnd.{HeadEnds, IsBare, IsBareHead, NamesProcedure, bare_head, goal_ends, head_ends, typed_bare}
use Rattle.gb_accepted.proofs.UnfoldedEnd.{good_unfolded}

none_some : {X : Type 0} (p : Pair) → ◌≡◌ {A = Option Pair} None (Some p) → X
none_some p e = cc

in_some : {A : Type 0} (x y : A) → ◌≡◌ {A = Option A} (Some x) (Some y) → x ≡ y
in_some x y e = cc

-- The sides of an equation.

equation_bare : (c : Context) (f : Term) → IsForm c f → (a b : Term) → equation_of f ≡ Some (a, b) → IsBare a × IsBare b
equation_bare c (Term' tt (more_of-Head (head.Builtin Equal) end_of-Head) n ts t) w a b e =
    let k = said_by_equation c (Term' tt (more_of-Head (head.Builtin Equal) end_of-Head) n ts t) a b w.typed e in
    let s = k.sides in
    (typed_bare c a s.left, typed_bare c b s.right)
equation_bare c (Term' tt (more_of-Head h end_of-Head) n ts t) w a b e = none_some (a, b) (ap (λ x. equation_at x.head x.args) (sym (out_is h n ts t)) ∙ e)

up_bare : (a b : Term) (p : Pair) → used_up (a, b) ≡ Some p → IsBare a × IsBare b → IsBare p.1
up_bare a b p e w = first_side (is_variable_apart b a) e
  where
    second_side : (z : Bool) → (if z then Some (a, b) else None) ≡ Some p → IsBare p.1
    second_side true e = subst (λ (x : Pair). IsBare x.1) (in_some (a, b) p e) w.1
    second_side false e = none_some p e

    first_side : (z : Bool) → (if z then Some (b, a) else if is_variable_apart a b then Some (a, b) else None) ≡ Some p → IsBare p.1
    first_side true e = subst (λ (x : Pair). IsBare x.1) (in_some (b, a) p e) w.0
    first_side false e = second_side (is_variable_apart a b) e

hypothesis_typed : (c : Context) (hs : List Hyp) (i : ℕ) (h : Hyp) → slice_get hs i ≡ Some h → AreHypotheses c hs → IsForm c h.form
hypothesis_typed c [] i h e w = cc
hypothesis_typed c (x ∷ hs) zero h e w = subst (λ (y : Hyp). IsForm c y.form) (in_some x h e) w.0
hypothesis_typed c (x ∷ hs) (suc i) h e w = hypothesis_typed c hs i h e w.1

-- a term in the place of others keeps the bodies that a form judges
rewritten_head : (g : Setting) (a b f : Term) → IsBare b → HeadEnds g (out-Term f).head → HeadEnds g (out-Term (rewritten a b f)).head
rewritten_head g a b (Term' tt (more_of-Head h end_of-Head) n ts t) w k = step (is_same (Term' tt (more_of-Head h end_of-Head) n ts t) a) _
  where
    step : (z : Bool) (us : List Term) → HeadEnds g (out-Term (if z then b else node h us t)).head
    step true us = bare_head g (out-Term b).head w
    step false us = subst (λ x. HeadEnds g x.head) (sym (node_out h us t)) (subst (λ x. HeadEnds g x.head) (out_is h n ts t) k)

module _ (es : scope.Declarations) (scoped : IsTypedScope (declared es)) (q : Sequent) (t : IsTypedSequent (context_of (declared es)) q) where
  abbrev ds : Declarations
  ds = declared es

  abbrev c : Context
  c = of_sequent (context_of ds) q t.frames

  abbrev Ends : List Sequent → Type 0
  Ends qs = AllByRecursion (SequentEnds ds) qs

  -- a conclusion whose head has good loops in each fitting setting in which that of the goal has
  moved_ends : (f : Term) → ((k : _) → IsSettingOf c (setting ds k) → HeadEnds (setting ds k) (out-Term q.conclusion).head → HeadEnds (setting ds k) (out-Term f).head) → SequentEnds ds q →
      InEachSequent ds q (λ k. LoopsEnd (setting ds k) (goal_of f))
  moved_ends f step h =
      joined ds q (λ k. LoopsEnd (setting ds k) (goal_of q.conclusion)) (λ k. IsSettingOf c (setting ds k)) (λ k. LoopsEnd (setting ds k) (goal_of f))
      (λ k x y. goal_ends (setting ds k) f (step k y (head_ends (setting ds k) c q.conclusion t.conclusion x))) h (each_setting ds scoped q t.modules t.frames)

  rewritten_ends : (a b : Term) → IsBare b → SequentEnds ds q → InEachSequent ds q (λ k. LoopsEnd (setting ds k) (goal_of (rewritten a b q.conclusion)))
  rewritten_ends a b w h = moved_ends (rewritten a b q.conclusion) (λ k fits y. rewritten_head (setting ds k) a b q.conclusion w y) h

  by_pair : (p : Pair) → IsBare p.1 → (place : Place) (qs : List Sequent) → given qs ≡ rewriting place q (Some p) → SequentEnds ds q → Ends qs
  by_pair p w place qs e h = step (quantifies_modules q.conclusion) (stands p.0 q.conclusion) e
    where
      step : (b z : Bool) → given qs ≡ (if b then refused Shape place else if z then given (concluding q (rewritten p.0 p.1 q.conclusion) ∷ []) else refused Shape place) → Ends qs
      step true z e = refused_at Shape place qs (sym e)
      step false false e = refused_at Shape place qs (sym e)
      step false true e = subst Ends (sym (same_given qs _ e)) (rewritten_ends p.0 p.1 w h, tt)

  forward_ends : (f : Term) → IsForm c f → (place : Place) (qs : List Sequent) → (o : Option Pair) → equivalence_of f ≡ o → given qs ≡ rewriting place q o → SequentEnds ds q → Ends qs
  forward_ends f w place qs None u e h = refused_at Shape place qs (sym e)
  forward_ends f w place qs (Some (a, b)) u e h = let k = said_by c f a b w.typed u in let s = k.sides in by_pair (a, b) (typed_bare c b s.right) place qs e h

  back_ends : (f : Term) → IsForm c f → (place : Place) (qs : List Sequent) → (o : Option Pair) → equivalence_of f ≡ o → given qs ≡ rewriting place q (option_map exchanged o) → SequentEnds ds q → Ends qs
  back_ends f w place qs None u e h = refused_at Shape place qs (sym e)
  back_ends f w place qs (Some (a, b)) u e h = let k = said_by c f a b w.typed u in let s = k.sides in by_pair (b, a) (typed_bare c a s.left) place qs e h

  used_ends : (i : ℕ) (place : Place) (f : Term) → IsForm c f → (o : Option Pair) → equation_of f ≡ o → (r : Option Pair) → used_up_of o ≡ r → (qs : List Sequent) → given qs ≡ using_up i place q r → SequentEnds ds q → Ends qs
  used_ends i place f w o u None v qs e h = refused_at Shape place qs (sym e)
  used_ends i place f w None u (Some p) v qs e h = none_some p v
  used_ends i place f w (Some (a, b)) u (Some p) v qs e h = step (goal_quantifies_modules q) e
    where
      step : (z : Bool) → given qs ≡ (if z then refused Shape place else given (without i q p ∷ [])) → Ends qs
      step true e = refused_at Shape place qs (sym e)
      step false e = subst Ends (sym (same_given qs _ e)) (rewritten_ends p.0 p.1 (up_bare a b p v (equation_bare c f w a b u)) h, tt)

  subst_ends : (i : ℕ) (place : Place) (qs : List Sequent) → (o : Option Hyp) → slice_get q.hyps i ≡ o → given qs ≡ using_up_hypothesis i place q o → SequentEnds ds q → Ends qs
  subst_ends i place qs None u e h = refused_at Shape place qs (sym e)
  subst_ends i place qs (Some x) u e h = used_ends i place x.form (hypothesis_typed c q.hyps i x u t.hyps) (equation_of x.form) refl (used_up_of (equation_of x.form)) refl qs e h

  -- An operator is unfolded.
  module _ (x : Name) (b : Term) (found : body_named es x ≡ Some b) where
    standing : IsStanding c x b
    standing = body_stands es scoped q t.frames x b found

    at_goal : c ≡ outermost c
    at_goal = sequent_outermost ds q t.frames

    form_bare : (f : Term) → IsForm c f → IsBare (unfolded x b f)
    form_bare f w =
        let kept = opened x c b (subst (λ d. IsStanding d x b) at_goal standing) in
        let m = kept.made (outermost c) refl f (let v = subst (λ d. IsForm d f) at_goal w in v.typed) in
        typed_bare (outermost c) (unfolded x b f) m.typed

    subject_bare : (s : Subject) → NamesProcedure s → NamesProcedure (subject_unfolded x b s)
    subject_bare (Proc p) w = tt
    subject_bare (Body' k is) w = absurd w

    bare_unfolded : (h : Head) → IsBareHead h → IsBareHead (head_unfolded x b h)
    bare_unfolded (head.Hoare s) w = subject_bare s w
    bare_unfolded (head.Phoare s r) w = subject_bare s w
    bare_unfolded (head.Equiv s u) w = (subject_bare s w.0, subject_bare u w.1)
    bare_unfolded _ w = tt

    module _ (g : Setting) (fits : IsSettingOf c g) (body : IsBody g x b) where
      -- what is judged, by its head
      of_head : (f : Term) → HeadEnds g (head_unfolded x b (out-Term f).head) → HeadEnds g (out-Term (programs_unfolded x b f)).head
      of_head f h =
          subst (λ y. HeadEnds g (out-Term y).head) (sym (programs_out x b f))
          (subst (λ y. HeadEnds g y.head) (sym (node_out (head_unfolded x b (out-Term f).head) (out-Term f).args (out-Term f).ty)) h)

      of_node : (h : Head) (us : List Term) (u : Ty) → HeadEnds g (head_unfolded x b h) → HeadEnds g (out-Term (programs_unfolded x b (node h us u))).head
      of_node h us u k = of_head (node h us u) (subst (λ y. HeadEnds g (head_unfolded x b y.head)) (sym (node_out h us u)) k)

      unfolded_head : (f : Term) → IsConclusion c f → has_module f ≡ false → HeadEnds g (out-Term f).head → HeadEnds g (out-Term (unfolded_everywhere x b f)).head
      unfolded_head (Term' tt (more_of-Head (head.Hoare (Body' k is)) end_of-Head) n ts u) w m h =
          of_node (head.Hoare (Body' k is)) _ u (good_unfolded x b c standing w.1 g fits body (trying g) (is_fair g) is w.2.1 (subst (λ y. HeadEnds g y.head) (out_is (head.Hoare (Body' k is)) n ts u) h))
      unfolded_head (Term' tt (more_of-Head (head.Phoare (Body' k is) r) end_of-Head) n ts u) w m h =
          of_node (head.Phoare (Body' k is) r) _ u (good_unfolded x b c standing w.1 g fits body (trying g) (is_fair g) is w.2.1 (subst (λ y. HeadEnds g y.head) (out_is (head.Phoare (Body' k is) r) n ts u) h))
      unfolded_head (Term' tt (more_of-Head (head.Equiv (Body' k is) (Body' l js)) end_of-Head) n ts u) w m h =
          let y = subst (λ y. HeadEnds g y.head) (out_is (head.Equiv (Body' k is) (Body' l js)) n ts u) h in
          of_node (head.Equiv (Body' k is) (Body' l js)) _ u (good_unfolded x b c standing w.1 g fits body (trying g) (is_fair g) is w.3.1 y.0, good_unfolded x b c standing w.2 g fits body (trying g) (is_fair g) js w.4.1 y.1)
      unfolded_head f w m h =
          of_head (unfolded x b f) (bare_head g (head_unfolded x b (out-Term (unfolded x b f)).head) (bare_unfolded (out-Term (unfolded x b f)).head (form_bare f (formula_form c f w m))))

    unfold_ends : (place : Place) (qs : List Sequent) → given qs ≡ opening_by x place q (Some b) → SequentEnds ds q → Ends qs
    unfold_ends place qs e h = step (quantifies_modules q.conclusion) (names x q.conclusion) refl e
      where
        step : (z v : Bool) → quantifies_modules q.conclusion ≡ z → given qs ≡ (if z then refused Shape place else if v then given (concluding q (unfolded_everywhere x b q.conclusion) ∷ []) else refused Shape place) → Ends qs
        step true v m e = refused_at Shape place qs (sym e)
        step false false m e = refused_at Shape place qs (sym e)
        step false true m e =
            subst Ends (sym (same_given qs _ e)) (
              moved_ends (unfolded_everywhere x b q.conclusion)
                  (λ k fits y. unfolded_head (setting ds k) fits (scope_bodies es k scoped x b found) q.conclusion t.conclusion (none_in_front q.conclusion m) y) h,
              tt,
            )

  opening_ends : (x : Name) (place : Place) (qs : List Sequent) (o : Option Term) → body_named es x ≡ o → given qs ≡ opening_by x place q o → SequentEnds ds q → Ends qs
  opening_ends x place qs None u e h = refused_at Shape place qs (sym e)
  opening_ends x place qs (Some b) u e h = unfold_ends x b u place qs e h

  -- A law of events.

  concluded_end : (place : Place) (qs : List Sequent) (o : Option Term) → ((f : Term) → o ≡ Some f → InEachSequent ds q (λ k. LoopsEnd (setting ds k) (goal_of f))) →
      given qs ≡ concluding_by place q o → Ends qs
  concluded_end place qs None k e = refused_at Shape place qs (sym e)
  concluded_end place qs (Some f) k e = subst Ends (sym (same_given qs _ e)) (k f refl, tt)

  law_ends : (l : EventLaw) (place : Place) (qs : List Sequent) → given qs ≡ by_event_law es l place q → SequentEnds ds q → Ends qs
  law_ends l place qs e h = step (quantifies_modules q.conclusion) e
    where
      step : (b : Bool) → given qs ≡ (if b then refused Shape place else concluding_by place q (by_first es l q.conclusion)) → Ends qs
      step true e = refused_at Shape place qs (sym e)
      step false e =
          concluded_end place qs (by_first es l q.conclusion) (λ f i. moved_ends f (λ k fits y. first_ends es l (setting ds k) q.conclusion f i y) h) e

  pub rewrites_end : (r : RewriteRule) → IsUsable ds q c r → (place : Place) (qs : List Sequent) → given qs ≡ rewrite_answer es r place q → SequentEnds ds q → Ends qs
  rewrites_end (Forward f) w place qs e h = forward_ends f w.0 place qs (equivalence_of f) refl e h
  rewrites_end (Back f) w place qs e h = back_ends f w.0 place qs (equivalence_of f) refl e h
  rewrites_end (Subst i) w place qs e h = subst_ends i place qs (slice_get q.hyps i) refl e h
  rewrites_end (Unfold x) w place qs e h = opening_ends x place qs (body_named es x) refl e h
  rewrites_end (Law l) w place qs e h = law_ends l place qs e h
