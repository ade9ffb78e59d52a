-- `smt` is sound.
use Rattle.std.proofs.Common.{◌≡◌, Bool, true, false, if◌then◌else◌, inl, inr, List, [], ◌∷◌, length, map, Some, refl, ap, sym, ◌∙◌, subst}
use Rattle.std.specs.List.{flat_map, All, AllByRecursion}
use Rattle.std.proofs.lemmas.List.{length-map}
use Rattle.std.proofs.lemmas.List.Elements.{All-head, All-tail}
use Rattle.gb_core.specs.declared.ty.Ty.{Ty}
use Rattle.gb_core.specs.declared.value.Value.{Value}
use Rattle.gb_terms.specs.declared.decl.TypedName.{TypedName}
use Rattle.gb_terms.specs.declared.term.Term.{Term, out-Term}
use Rattle.gb_goal.specs.Goal.{judges_bodies}
use Rattle.gb_goal.specs.Scope as scope
use Rattle.gb_goal.specs.declared.sequent.Hyp.{Hyp}
use Rattle.gb_goal.specs.declared.sequent.Sequent.{Sequent}
use Rattle.gb_meaning.specs.Memory.{Memory}
use Rattle.gb_meaning.specs.Setting.{Setting}
use Rattle.gb_meaning.specs.State.{State}
use Rattle.gb_meaning.specs.Judgments.{Judge, IsFair, speaking, den}
use Rattle.gb_meaning.specs.Declared.{Declarations, declared}
use Rattle.gb_meaning.specs.Settings.{Interpretation, types_of, setting}
use Rattle.gb_meaning.specs.Truth.{has_module, Truth}
use Rattle.gb_meaning.specs.Holds.{AreValues, AreTrue, context, Holds}
use Rattle.gb_meaning.proofs.Fronts.{without_modules}
use Rattle.gb_meaning.proofs.SettingTypes.{setting-types}
use Rattle.gb_laws.specs.Finite.{IsFinite, IsInhabited}
use Rattle.gb_laws.specs.Programs.{HaveFiniteTypes}
use Rattle.gb_typing.specs.Context.{Context, Frame}
use Rattle.gb_typing.specs.Typing.{IsForm}
use Rattle.gb_typing.specs.Fits.{IsSettingOf}
use Rattle.gb_typing.specs.Forms.{IsKeptOff}
use Rattle.gb_typing.specs.Chosen.{IsChosenOver}
use Rattle.gb_typing.specs.Scopes.{context_of, IsTypedScope}
use Rattle.gb_typing.specs.Sequents.{with_modules, IsConclusion, AreHypotheses, of_sequent, IsTypedSequent}
use Rattle.gb_typing.proofs.Conclusions.{formula_form}
use Rattle.gb_typing.proofs.Models.{each_chosen, each_setting}
use Rattle.gb_typing.proofs.TypedGoals.{no_module}
use Rattle.gb_typing.proofs.Lifted.{InEachSequent, joined, sequent_outermost}
use Rattle.gb_amb.proofs.Cases.{conclusion_formula}
use Rattle.gb_amb.proofs.Idle.{unchanged}
use Rattle.gb_amb.proofs.Wider.{small}
use Rattle.gb_mods.specs.Exclusions.{exclusions}
use Rattle.gb_prog.proofs.KeptOff.{kept_off}
use Rattle.gb_labels.specs.Memories.{AreKeptApart}
use Rattle.gb_eval.specs.Meant.{AreBodies}
use Rattle.gb_smt.specs.declared.leaves.Leaf.{Leaf}
use Rattle.gb_smt.specs.Leaves as leaves
use Rattle.gb_smt.specs.Leaves.{assumed, assumed_of, hyps_with, speaks_of_programs, leaves_of}
use Rattle.gb_smt.specs.Claims.{claim_of}
use Rattle.gb_smt.specs.Apply.{Closes, IsClosed, ClosesByClaim}
use Rattle.gb_smt_laws.specs.Ready.{SmtIsReady}
use Rattle.gb_smt_laws.proofs.Bodies.{scope_bodies}
use Rattle.gb_smt_laws.proofs.Rule.{AreTrueForms, AreKnown, IsConcluded, conclusion_true, all_known}
use Rattle.gb_smt_laws.proofs.Typed.{goal_ready}
use Rattle.gb_smt_laws.specs.Alike.{RespectAlike}
use Rattle.gb_smt_laws.proofs.Respects.{scope_respects}
use Rattle.gb_closing_laws.proofs.KeptApart.{kept_apart}
use Rattle.gb_closing_laws.proofs.Opening.{opening_start}
use Rattle.gb_closing_laws.proofs.Places.{AreForms, AreTrueIn, IsTrueLeaf, Place, Given, both_given, assumed_given}
use Rattle.gb_closing_laws.proofs.Split.{split_true}
use Rattle.gb_smt.specs.Equations.{used_up}
use Rattle.gb_closing_laws.proofs.UsedUp.{used_true}
use Rattle.gb_closing_laws.proofs.Leaves.{operators_stay, valid_is_true, claim_holds, leaf_holds, claimed_is_true}
use Rattle.gb_closing_laws.proofs.TypedLeaves.{IsTypedLeaf, leaves_typed}
use Rattle.gb_smt_laws.specs.Closing.{LeafHolds}
use Rattle.gb_closing_laws.proofs.NoForms.{module_conclusion, judged_conclusion}
use Rattle.gb_smt_laws.proofs.Results.{HasResults, each_results}

all_finite : (xs : List TypedName) → HaveFiniteTypes xs → AllByRecursion IsFinite (map (λ x. x.ty) xs)
all_finite [] w = tt
all_finite (x ∷ xs) w = (w.0, all_finite xs w.1)

module _ (es : scope.Declarations) (typed : IsTypedScope (declared es)) (q : Sequent) (t : IsTypedSequent (context_of (declared es)) q) where
  abbrev ds : Declarations
  ds = declared es

  abbrev b : Context
  b = with_modules (context_of ds) q.modules

  abbrev us : List Ty
  us = map (λ x. x.ty) q.logical

  abbrev ns : List Frame
  ns = map Some t.frames

  abbrev c : Context
  c = small b us ns

  outermost : of_sequent (context_of ds) q t.frames ≡ c
  outermost = sequent_outermost ds q t.frames

  -- variables that don't clash are kept apart
  abbrev IsKept : Interpretation → Type 0
  IsKept k = AreKeptApart (exclusions es) (setting ds k).types

  module _ (k : Interpretation) (fits_at : IsSettingOf (of_sequent (context_of ds) q t.frames) (setting ds k)) (kept : IsKept k) (results : HasResults ds k) (vs : List Value) (of_types : AreValues (types_of ds k) us vs) (ms : List Memory) where
    abbrev g : Setting
    g = setting ds k

    abbrev s : State
    s = context vs ms

    fit : IsSettingOf c g
    fit = subst (λ c. IsSettingOf c g) outermost fits_at

    bodies : AreBodies g es
    bodies = scope_bodies es k typed

    respects_scope : RespectAlike (context_of ds) g
    respects_scope = scope_respects ds k typed (subst IsInhabited (setting-types ds k) fit.types.inhabited) results

    respects : (ts : List Ty) (fs : List Frame) → RespectAlike (small b ts fs) g
    respects ts fs = λ n o e. respects_scope n o (ap (λ f. f n) (sym (operators_stay q.modules (context_of ds))) ∙ e)

    module _ (i : Judge) (fair : IsFair g i) where
      abbrev Start : List Term → Type 0
      Start hs = Place b g i fair (leaves.context_of q) us ns hs vs ms

      abbrev Gives : List Term → Type 0
      Gives hs = Given c g i s hs

      form_gives : (f : Term) → IsForm c f → Truth ds f k s → Gives (assumed f)
      form_gives f w x = assumed_given c g i s f w ((without_modules ds f k s (no_module c f w.typed)).0 x i fair)

      hyp_gives : (h : Hyp) → IsForm c h.form → Truth ds h.form k s → Gives (assumed_of h)
      hyp_gives h w x = by_programs (speaks_of_programs h.form)
        where
          by_programs : (p : Bool) → Gives (if p then [] else assumed h.form)
          by_programs true = (tt, tt)
          by_programs false = form_gives h.form w x

      hyps_give : (hs : List Hyp) → AreHypotheses c hs → AreTrue ds hs k s → Gives (flat_map assumed_of hs)
      hyps_give [] w x = (tt, tt)
      hyps_give (h ∷ hs) w x = both_given c g i s (assumed_of h) (flat_map assumed_of hs) (hyp_gives h w.0 x.0) (hyps_give hs w.1 x.1)

      known_give : (fs : List Term) → AreForms c fs → AreTrueForms ds fs k s → Gives (flat_map assumed fs)
      known_give [] w x = (tt, tt)
      known_give (f ∷ fs) w x = both_given c g i s (assumed f) (flat_map assumed fs) (form_gives f w.0 x.0) (known_give fs w.1 x.1)

      start : (hs : List Term) → Gives hs → Start hs
      start hs a = record {
        variables = sym (length-map q.logical (λ x. x.ty));
        memories = sym t.memories ∙ sym (length-map t.frames Some);
        opening = opening_start;
        finite = all_finite q.logical t.logical;
        frames = (t.frames, refl);
        fits = fit;
        values = subst (λ ts. AreValues ts us vs) (sym (setting-types ds k)) of_types;
        forms = a.0;
        assumed = a.1;
      }

      leaf_true : (l : Leaf) → IsClosed es l → IsTrueLeaf b g i l
      leaf_true l (inl e) = used_true b g i fair (length l.hyps) l (valid_is_true b g i (used_up l) respects e.valid)
      leaf_true l (inr c) = claimed_is_true es typed q.modules t.modules g bodies kept i fair l c

      leaves_true : (ls : List Leaf) → All (IsClosed es) ls → AllByRecursion (IsTrueLeaf b g i) ls
      leaves_true [] a = tt
      leaves_true (l ∷ ls) a = (leaf_true l (All-head (IsClosed es) l ls a), leaves_true ls (All-tail (IsClosed es) l ls a))

      conclusion_form : has_module q.conclusion ≡ false → judges_bodies (out-Term q.conclusion).head ≡ false → IsForm c q.conclusion
      conclusion_form m n = formula_form c q.conclusion (conclusion_formula c q.conclusion (subst (λ c. IsConclusion c q.conclusion) outermost t.conclusion) n) m

      concluded : (known : List Term) → AreForms c known → All (IsClosed es) (leaves_of known q) →
          has_module q.conclusion ≡ false → judges_bodies (out-Term q.conclusion).head ≡ false → AreTrue ds q.hyps k s → AreTrueForms ds known k s → den g i q.conclusion s ≡ true
      concluded known forms closed m j h x =
          let form = conclusion_form m j in
          let same = unchanged c q.conclusion form.typed [] tt in
          let given = both_given c g i s (flat_map assumed_of q.hyps) (flat_map assumed known)
          (hyps_give q.hyps (subst (λ c. AreHypotheses c q.hyps) outermost t.hyps) h) (known_give known forms x) in
          ap (λ z. den g i z s) (sym same)
          ∙ split_true b g i fair q.conclusion (leaves.context_of q) (hyps_with known q) (leaves_true (leaves_of known q) closed) c form.typed us ns vs ms
          (start (hyps_with known q) given) (subst (IsForm c) (sym same) form)

  module _ (known : List Term) (forms : AllByRecursion (IsForm (of_sequent (context_of ds) q t.frames)) known) (closed : All (IsClosed es) (leaves_of known q))
      (held : AllByRecursion (λ f. Holds ds (record q { conclusion = f })) known) where
    abbrev Fits : Interpretation → Type 0
    Fits k = IsSettingOf (of_sequent (context_of ds) q t.frames) (setting ds k)

    -- what is known of a setting
    abbrev IsFitting : Interpretation → Type 0
    IsFitting k = ((Fits k × IsKept k) × HasResults ds k) × AreKnown ds q known k

    settings : InEachSequent ds q Fits
    settings w size table model = each_setting ds typed q t.modules t.frames w size table model

    kept_settings : InEachSequent ds q (λ k. Fits k × IsKept k)
    kept_settings =
        joined ds q Fits (IsChosenOver ds) (λ k. Fits k × IsKept k)
        (λ k a b. (a, kept_apart (exclusions es) (setting ds k) (kept_off es typed (setting ds k) (record { interpretation = k; chosen = b; meant = refl }))))
        settings (each_chosen ds typed q t.modules [])

    fitting : InEachSequent ds q IsFitting
    fitting =
        joined ds q (λ k. (Fits k × IsKept k) × HasResults ds k) (AreKnown ds q known) IsFitting (λ k a b. (a, b))
        (joined ds q (λ k. Fits k × IsKept k) (HasResults ds) (λ k. (Fits k × IsKept k) × HasResults ds k) (λ k a b. (a, b)) kept_settings (each_results ds typed q)) (all_known ds q known held)

    forms_here : AreForms c known
    forms_here = subst (λ c. AreForms c known) outermost forms

    ready : (k : Interpretation) → Fits k → SmtIsReady es (setting ds k) known q
    ready k fit = goal_ready ds (setting ds k) fit.types.inhabited fit.once q t es (scope_bodies es k typed) known forms

    -- each leaf holds, where a claim closes each
    module _ (k : Interpretation) (fit : Fits k) (kept : IsKept k) (i : Judge) (fair : IsFair (setting ds k) i) where
      fit_here : IsSettingOf c (setting ds k)
      fit_here = subst (λ c. IsSettingOf c (setting ds k)) outermost fit

      leaves_hold : (ls : List Leaf) → AllByRecursion (IsTypedLeaf b) ls → AllByRecursion (ClosesByClaim es) ls → AllByRecursion (LeafHolds (setting ds k) (speaking (setting ds k) i)) ls
      leaves_hold [] w a = tt
      leaves_hold (l ∷ ls) w a = (leaf_holds es typed q.modules t.modules (setting ds k) (scope_bodies es k typed) kept i fair us ns fit_here l w.0 a.0, leaves_hold ls w.1 a.1)

    all_typed : AllByRecursion (IsTypedLeaf b) (leaves_of known q)
    all_typed =
        leaves_typed b q us (all_finite q.logical t.logical) ns (t.frames, refl) (sym (length-map q.logical (λ x. x.ty))) (sym t.memories ∙ sym (length-map t.frames Some)) known forms_here
        (subst (λ c. AreHypotheses c q.hyps) outermost t.hyps) (subst (λ c. IsConclusion c q.conclusion) outermost t.conclusion)

    holds_by_claims : AllByRecursion (ClosesByClaim es) (leaves_of known q) → Holds ds q
    holds_by_claims a =
        joined ds q IsFitting IsFitting (IsConcluded ds q q.conclusion)
        (λ k x y vs v ms h. conclusion_true ds k es known q (ready k x.0.0.0) vs v ms (λ i fair. leaves_hold k x.0.0.0 x.0.0.1 i fair (leaves_of known q) all_typed a) h (x.1 vs v ms h))
        fitting fitting

    by_leaves : has_module q.conclusion ≡ false → judges_bodies (out-Term q.conclusion).head ≡ false → Holds ds q
    by_leaves m j =
        joined ds q IsFitting IsFitting (IsConcluded ds q q.conclusion)
        (λ k x y vs v ms h. (without_modules ds q.conclusion k (context vs ms) m).1
        (λ i fair. concluded k x.0.0.0 x.0.0.1 x.0.1 vs v ms i fair known forms_here closed m j h (x.1 vs v ms h)))
        fitting fitting

    by_judged : has_module q.conclusion ≡ false → (j : Bool) → judges_bodies (out-Term q.conclusion).head ≡ j → Holds ds q
    by_judged m true e = holds_by_claims (judged_conclusion es q.conclusion (leaves.context_of q) (hyps_with known q) closed e)
    by_judged m false e = by_leaves m e

    by_conclusion : (m : Bool) → has_module q.conclusion ≡ m → Holds ds q
    by_conclusion true e = holds_by_claims (module_conclusion es q.conclusion (leaves.context_of q) (hyps_with known q) closed e)
    by_conclusion false e = by_judged e (judges_bodies (out-Term q.conclusion).head) refl

    -- A typed goal holds where each of its leaves is closed, and the forms that are known besides follow.
    pub closed_holds : Holds ds q
    closed_holds = by_conclusion (has_module q.conclusion) refl

  -- A claim of forms of the goal's context that closes is true in each setting of it.
  pub claims_are_true : (g : Setting) → IsSettingOf (of_sequent (context_of ds) q t.frames) g → AreBodies g es → IsKeptOff (exclusions es) g → (i : Judge) → IsFair g i → (hs : List Term) (f : Term) →
      AreForms (of_sequent (context_of ds) q t.frames) hs → IsForm (of_sequent (context_of ds) q t.frames) f → Closes es (claim_of hs f) →
      (vs : List Value) → AreValues g.types us vs → (ms : List Memory) → AreTrueIn g i (context vs ms) hs → den g i f (context vs ms) ≡ true
  claims_are_true g fits bodies off i fair hs f forms form closes =
      claim_holds es typed q.modules t.modules us (all_finite q.logical t.logical) t.frames g (subst (λ c. IsSettingOf c g) outermost fits) bodies (kept_apart (exclusions es) g off) i fair hs f closes
      (subst (λ c. AreForms c hs) outermost forms) (subst (λ c. IsForm c f) outermost form)
