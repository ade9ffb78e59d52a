-- A claim that closes is true in settings in which the values of globals are labels.
use Rattle.std.proofs.Common.{◌≡◌, ℕ, ◌<◌, true, List, [], ◌∷◌, map, sym, ◌∙◌, ap, subst, arith}
use Rattle.gb_terms.specs.declared.term.Term.{Term}
use Rattle.gb_meaning.specs.Setting.{Setting}
use Rattle.gb_meaning.specs.Meanings.{truth}
use Rattle.gb_meaning.specs.State.{State}
use Rattle.gb_meaning.specs.Terms.{Speaks}
use Rattle.gb_goal.specs.Scope.{Declarations}
use Rattle.gb_mods.specs.Exclusions.{exclusions}
use Rattle.gb_labels.specs.Memories.{AreKeptApart}
use Rattle.gb_eval.specs.Eval.{operators_of}
use Rattle.gb_eval.specs.Meant.{AreOperators}
use Rattle.gb_labels.specs.Labels.{Labels, choices, choice_at}
use Rattle.gb_labels.specs.Labelled.{labelled}
use Rattle.gb_smt.specs.Claims.{claim_of}
use Rattle.gb_smt.specs.Width.{is_known_claim}
use Rattle.gb_smt.specs.Assign.{labelled_claim, IsTrueEverywhere}
use Rattle.gb_smt.specs.Apply.{Closes}
use Rattle.gb_smt.specs.Meant.{IsRight}
use Rattle.gb_smt_laws.specs.Labels.{AreLabels}
use Rattle.gb_smt_laws.specs.Reading.{Reading, IsReadingOf}
use Rattle.gb_smt_laws.specs.Closing.{FitsIfSimple, AreAssumed, IsImplied}
use Rattle.gb_smt_laws.proofs.Claimed.{known_if_tried, known_claim}
use Rattle.gb_smt_laws.proofs.LabelledTypes.{choice_of_same}
use Rattle.gb_smt_laws.proofs.Labelled.{labelled_simple, labelled_means}
use Rattle.gb_smt_laws.proofs.LabelledVariables.{claim_labelled}
use Rattle.gb_smt_laws.proofs.LabelledFits.{reading_at_labels, reading_labelled, labelled_fits}
use Rattle.gb_smt_laws.proofs.LabelledKnown.{claim_known_with_same}

module _ (ds : Declarations) (g : Setting) (ops : AreOperators g (operators_of ds)) (apart : AreKeptApart (exclusions ds) g.types) (j : Speaks) (right : IsRight g j) (s : State) (W : Reading) (valid : IsReadingOf g W s) where
  module _ (ls : Labels) (are : AreLabels g.types ls) where
    abbrev L : Reading
    L = reading_at_labels ls W

    fits_with_labels : (t : Term) → FitsIfSimple g W t → FitsIfSimple g L (labelled ls t)
    fits_with_labels t f k = labelled_fits ls g are W t (f (sym (labelled_simple ls t) ∙ k))

    assumed_with_labels : (hs : List Term) → AreAssumed g j W s hs → AreAssumed g j L s (map (labelled ls) hs)
    assumed_with_labels [] a = tt
    assumed_with_labels (h ∷ hs) a = (
      λ k.
          let simple = sym (labelled_simple ls h) ∙ k in
          let there = a.0 simple in
          (labelled_fits ls g are W h there.0, ap truth (labelled_means g ls are j right h simple s) ∙ there.1),
      assumed_with_labels hs a.1,
    )

    -- a claim that is true with labels under every assignment
    pub labelled_claim_true : (hs : List Term) (t : Term) → is_known_claim ds (labelled_claim ls (claim_of hs t)) ≡ true → IsTrueEverywhere ds (labelled_claim ls (claim_of hs t)) → IsImplied g j W s hs t
    labelled_claim_true hs t k everywhere a f =
        let e = claim_labelled ls hs t in
        let r = known_claim ds g ops apart j right s L (reading_labelled ls g are W s valid) (map (labelled ls) hs) (labelled ls t) (subst (λ c. is_known_claim ds c ≡ true) e k) (subst (IsTrueEverywhere ds) e everywhere)
        (assumed_with_labels hs a) (fits_with_labels t f) in
        let simple = sym (labelled_simple ls t) ∙ r.0 in
        (simple, sym (ap truth (labelled_means g ls are j right t simple s)) ∙ r.1)

  -- a claim that closes, with one of the choices of numbers of labels
  pub closed_claim : (hs : List Term) (t : Term) (c : Closes ds (claim_of hs t)) (i : ℕ) → i < choices c.most → AreLabels g.types (choice_at c.most i) → IsImplied g j W s hs t
  closed_claim hs t c i below are =
      labelled_claim_true (choice_at c.most i) are hs t
      (claim_known_with_same (choice_at c.most i) c.most (choice_of_same c.most i) ds hs t ∙ known_if_tried ds (labelled_claim c.most (claim_of hs t)) c.tried) (c.each i below)

  -- a claim of no such globals
  pub closed_without : (hs : List Term) (t : Term) (c : Closes ds (claim_of hs t)) → c.most ≡ [] → IsImplied g j W s hs t
  closed_without hs t c e =
      closed_claim hs t c 0 (subst (λ ls. 0 < choices ls) (sym e) (omega arith)) (subst (λ ls. AreLabels g.types (choice_at ls 0)) (sym e) (λ m k n. cc))
