-- Evaluation knows a term with labels where it knows it with other labels of the same modules.
use Rattle.std.proofs.Common.{◌≡◌, ◌==◌, Bool, ◌&&◌, List, [], ◌∷◌, map, length, refl, ap, sym, ◌∙◌}
use Rattle.std.specs.List.{list_all}
use Rattle.std.proofs.lemmas.List.{length-map}
use Rattle.gb_core.specs.declared.ty.Ty.{Ty}
use Rattle.gb_core.specs.Types.{is_finite}
use Rattle.gb_terms.specs.declared.op.Op.{Op}
use Rattle.gb_terms.specs.declared.op.Op.TheVariants as op
use Rattle.gb_terms.specs.declared.op.Side.TheVariants as side
use Rattle.gb_terms.specs.declared.op.Read.{Read}
use Rattle.gb_terms.specs.declared.op.Read.TheVariants.{Logical, Program}
use Rattle.gb_terms.specs.declared.term.Term.{Term, Term', Row_of-Term, end_of-Term, more_of-Term, end_of-Head, more_of-Head}
use Rattle.gb_terms.specs.declared.term.Head.{Head}
use Rattle.gb_terms.specs.declared.term.Head.TheVariants as head
use Rattle.gb_meaning.specs.Names.{Name}
use Rattle.gb_meaning.specs.Operators.{is_distribution, outcome_type}
use Rattle.gb_meaning.specs.Written.{type_of}
use Rattle.gb_laws.specs.Typing.{types_of}
use Rattle.gb_goal.specs.Scope.{Declarations}
use Rattle.gb_eval.specs.Known.{is_known, all_known, is_head_known, is_read_known, is_result_known, takes, has_finite_outcomes, are_of_outcomes, are_true, known_of}
use Rattle.gb_labels.specs.Labels.{Labels, labelled_ty}
use Rattle.gb_labels.specs.Labelled.{labelled_head, labelled, all_labelled}
use Rattle.gb_smt.specs.Claims.{claim_of}
use Rattle.gb_smt.specs.Assign.{labelled_claim}
use Rattle.gb_smt.specs.Width.{is_known_claim}
use Rattle.gb_smt_laws.proofs.LabelledTypes.{AreOfSame, finite_with_same, labelled_alike}
use mathlib.Core.Former.{Count}

labelled_type : (ls : Labels) (t : Term) → type_of (labelled ls t) ≡ labelled_ty ls (type_of t)
labelled_type ls (Term' p (more_of-Head h end_of-Head) n ts u) = refl

labelled_types : {n : Count} (ls : Labels) (ts : Row_of-Term n) → types_of (all_labelled ls ts) ≡ map (labelled_ty ls) (types_of ts)
labelled_types ls end_of-Term = refl
labelled_types ls (more_of-Term t ts) = let first = labelled_type ls t in let rest = labelled_types ls ts in λ i. first i ∷ rest i

module _ (ls ms : Labels) (same : AreOfSame ls ms) where
  as_many : (us : List Ty) → length (map (labelled_ty ls) us) ≡ length (map (labelled_ty ms) us)
  as_many us = length-map us (labelled_ty ls) ∙ sym (length-map us (labelled_ty ms))

  read_known : (r : Read) (u : Ty) → is_read_known r (labelled_ty ls u) ≡ is_read_known r (labelled_ty ms u)
  read_known (Logical i) u = refl
  read_known (Program x side.Own) u = refl
  read_known (Program x side.Left) u = refl
  read_known (Program x side.Right) u = refl
  read_known (Program x (side.Memory i)) u = refl
  read_known (Program x (side.Bound i)) u = finite_with_same ls ms same u

  result_known : (o : Op) (u : Ty) → is_result_known o (labelled_ty ls u) ≡ is_result_known o (labelled_ty ms u)
  result_known op.Oget u = finite_with_same ls ms same u
  result_known _ u = refl

  outcomes_finite : (d : Ty) → has_finite_outcomes (labelled_ty ls d) ≡ has_finite_outcomes (labelled_ty ms d)
  outcomes_finite d =
      (λ i. (labelled_alike ls d).0 i && is_finite ((labelled_alike ls d).1 i))
      ∙ ap (λ b. is_distribution d && b) (finite_with_same ls ms same (outcome_type d))
      ∙ sym (λ i. (labelled_alike ms d).0 i && is_finite ((labelled_alike ms d).1 i))

  of_outcomes : (us : List Ty) → are_of_outcomes (map (labelled_ty ls) us) ≡ are_of_outcomes (map (labelled_ty ms) us)
  of_outcomes [] = refl
  of_outcomes (d ∷ []) = refl
  of_outcomes (d ∷ a ∷ []) = outcomes_finite d
  of_outcomes (d ∷ a ∷ b ∷ us) = refl

  module _ (ks : Name → Bool) where
    head_known : (h : Head) (u : Ty) (us : List Ty) →
        is_head_known ks (labelled_head ls h) (labelled_ty ls u) (map (labelled_ty ls) us) ≡ is_head_known ks (labelled_head ms h) (labelled_ty ms u) (map (labelled_ty ms) us)
    head_known (head.Lit v) u us = ap (λ n. n == 0) (as_many us)
    head_known (head.Whole k) u us = ap (λ n. n == 0) (as_many us)
    head_known (head.Bound i) u us = ap (λ n. n == 0) (as_many us)
    head_known (head.Weights ps) u us = ap (λ n. n == 0) (as_many us)
    head_known (head.Read r) u us = let size = as_many us in let read = read_known r u in λ i. (size i == 0) && read i
    head_known (head.Builtin o) u us = let size = as_many us in let result = result_known o u in λ i. takes o (size i) && result i
    head_known (head.User n) u us = refl
    head_known (head.All v) u us = let size = as_many us in let finite = finite_with_same ls ms same v in λ i. (size i == 1) && finite i
    head_known (head.Some v) u us = let size = as_many us in let finite = finite_with_same ls ms same v in λ i. (size i == 1) && finite i
    head_known (head.Sum q) u us = ap (λ n. n == 1) (as_many us)
    head_known head.AllMemory u us = ap (λ n. n == 1) (as_many us)
    head_known head.SomeMemory u us = ap (λ n. n == 1) (as_many us)
    head_known head.Mu u us = of_outcomes us
    head_known head.Map u us = of_outcomes us
    head_known head.Restrict u us = of_outcomes us
    head_known _ u us = refl

    mutual
      known_with_same : (t : Term) → is_known ks (labelled ls t) ≡ is_known ks (labelled ms t)
      known_with_same (Term' p (more_of-Head h end_of-Head) n ts u) =
          let head = ap (is_head_known ks (labelled_head ls h) (labelled_ty ls u)) (labelled_types ls ts) ∙ head_known h u (types_of ts)
          ∙ ap (is_head_known ks (labelled_head ms h) (labelled_ty ms u)) (sym (labelled_types ms ts)) in
          let rest = row_known_with_same ts in
          λ i. head i && are_true (rest i)

      row_known_with_same : {n : Count} (ts : Row_of-Term n) → all_known ks (all_labelled ls ts) ≡ all_known ks (all_labelled ms ts)
      row_known_with_same end_of-Term = refl
      row_known_with_same (more_of-Term t ts) = let first = known_with_same t in let rest = row_known_with_same ts in λ i. first i ∷ rest i

    all_known_with_same : (hs : List Term) → list_all (is_known ks) (map (labelled ls) hs) ≡ list_all (is_known ks) (map (labelled ms) hs)
    all_known_with_same [] = refl
    all_known_with_same (h ∷ hs) = let first = known_with_same h in let rest = all_known_with_same hs in λ i. first i && rest i

  pub claim_known_with_same : (ds : Declarations) (hs : List Term) (t : Term) → is_known_claim ds (labelled_claim ls (claim_of hs t)) ≡ is_known_claim ds (labelled_claim ms (claim_of hs t))
  claim_known_with_same ds hs t = let hyps = all_known_with_same (known_of ds) hs in let conclusion = known_with_same (known_of ds) t in λ i. hyps i && conclusion i
