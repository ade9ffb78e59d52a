-- The variables of terms with labels are those of the terms, at their types with labels.
use Rattle.std.proofs.Common.{◌≡◌, Bool, true, false, if◌then◌else◌, ◌||◌, Option, Some, None, List, [], ◌∷◌, ◌++◌, map, refl, ap, sym, ◌∙◌}
use Rattle.std.specs.List.{flat_map}
use Rattle.gb_core.specs.declared.ty.Ty.{Ty}
use Rattle.gb_terms.specs.declared.op.Read.{Read}
use Rattle.gb_terms.specs.declared.term.Term.{Term, Term', Row_of-Term, end_of-Term, more_of-Term, end_of-Head, more_of-Head}
use Rattle.gb_terms.specs.declared.term.Head.{Head}
use Rattle.gb_terms.specs.declared.term.Head.TheVariants as head
use Rattle.gb_terms.specs.Equal.{read_eq}
use Rattle.gb_meaning.specs.Commands.{terms_in}
use Rattle.gb_closing.specs.declared.linked.Variable.{Variable}
use Rattle.gb_closing.specs.Linked.{Vars, is_among}
use Rattle.gb_equality.specs.Variables.{of_read, term_variables, with_new, noted, variables_in}
use Rattle.gb_labels.specs.Labels.{Labels, labelled_ty}
use Rattle.gb_labels.specs.Labelled.{labelled_head, labelled, all_labelled}
use Rattle.gb_smt.specs.Claims.{claim_of}
use Rattle.gb_smt.specs.Assign.{labelled_claim}
use Rattle.gb_smt_laws.proofs.Known.{read_of, variables_are}
use mathlib.Core.Former.{Count}

module _ (ls : Labels) where
  abbrev at_labels : Variable → Variable
  at_labels v = record { read = v.read; ty = labelled_ty ls v.ty }

  abbrev all_at_labels : Vars → Vars
  all_at_labels vs = map at_labels vs

  behind_others : (vs ws : Vars) → all_at_labels (vs ++ ws) ≡ all_at_labels vs ++ all_at_labels ws
  behind_others [] ws = refl
  behind_others (v ∷ vs) ws = ap (λ l. at_labels v ∷ l) (behind_others vs ws)

  read_of_labelled : (h : Head) → read_of (labelled_head ls h) ≡ read_of h
  read_of_labelled (head.All u) = refl
  read_of_labelled (head.Some u) = refl
  read_of_labelled _ = refl

  of_read_labelled : (o : Option Read) (u : Ty) (vs : Vars) → of_read o (labelled_ty ls u) (all_at_labels vs) ≡ all_at_labels (of_read o u vs)
  of_read_labelled (Some r) u vs = refl
  of_read_labelled None u vs = refl

  mutual
    pub labelled_variables : (t : Term) → term_variables (labelled ls t) ≡ all_at_labels (term_variables t)
    labelled_variables (Term' p (more_of-Head h end_of-Head) n ts u) =
        variables_are (labelled_head ls h) n (all_labelled ls ts) (labelled_ty ls u)
        ∙ ap (λ o. of_read o (labelled_ty ls u) (flat_map term_variables (terms_in (all_labelled ls ts)))) (read_of_labelled h)
        ∙ ap (of_read (read_of h) (labelled_ty ls u)) (row_variables ts)
        ∙ of_read_labelled (read_of h) u (flat_map term_variables (terms_in ts))
        ∙ ap all_at_labels (sym (variables_are h n ts u))

    row_variables : {n : Count} (ts : Row_of-Term n) → flat_map term_variables (terms_in (all_labelled ls ts)) ≡ all_at_labels (flat_map term_variables (terms_in ts))
    row_variables end_of-Term = refl
    row_variables (more_of-Term t ts) =
        let first = labelled_variables t in
        let rest = row_variables ts in
        (λ i. first i ++ rest i) ∙ sym (behind_others (term_variables t) (flat_map term_variables (terms_in ts)))

  hypotheses_variables : (hs : List Term) → flat_map term_variables (map (labelled ls) hs) ≡ all_at_labels (flat_map term_variables hs)
  hypotheses_variables [] = refl
  hypotheses_variables (h ∷ hs) =
      let first = labelled_variables h in
      let rest = hypotheses_variables hs in
      (λ i. first i ++ rest i) ∙ sym (behind_others (term_variables h) (flat_map term_variables hs))

  among_labelled : (vs : Vars) (r : Read) → is_among (all_at_labels vs) r ≡ is_among vs r
  among_labelled [] r = refl
  among_labelled (v ∷ vs) r = ap (λ b. read_eq v.read r || b) (among_labelled vs r)

  new_labelled : (vs : Vars) (v : Variable) → with_new (all_at_labels vs) (at_labels v) ≡ all_at_labels (with_new vs v)
  new_labelled vs v = ap (λ b. if b then all_at_labels vs else all_at_labels vs ++ at_labels v ∷ []) (among_labelled vs v.read) ∙ step (is_among vs v.read)
    where
      step : (b : Bool) → (if b then all_at_labels vs else all_at_labels vs ++ at_labels v ∷ []) ≡ all_at_labels (if b then vs else vs ++ v ∷ [])
      step true = refl
      step false = sym (behind_others vs (v ∷ []))

  noted_labelled : (vs ws : Vars) → noted (all_at_labels vs) (all_at_labels ws) ≡ all_at_labels (noted vs ws)
  noted_labelled vs [] = refl
  noted_labelled vs (w ∷ ws) = ap (λ l. noted l (all_at_labels ws)) (new_labelled vs w) ∙ noted_labelled (with_new vs w) ws

  claim_variables : (hs : List Term) (t : Term) → variables_in (map (labelled ls) hs) (labelled ls t) ≡ all_at_labels (variables_in hs t)
  claim_variables hs t =
      ap (λ l. noted (noted [] l) (term_variables (labelled ls t))) (hypotheses_variables hs)
      ∙ ap (λ l. noted l (term_variables (labelled ls t))) (noted_labelled [] (flat_map term_variables hs))
      ∙ ap (noted (all_at_labels (noted [] (flat_map term_variables hs)))) (labelled_variables t)
      ∙ noted_labelled (noted [] (flat_map term_variables hs)) (term_variables t)

  -- a claim with labels is that of its hypotheses and its conclusion with labels
  pub claim_labelled : (hs : List Term) (t : Term) → labelled_claim ls (claim_of hs t) ≡ claim_of (map (labelled ls) hs) (labelled ls t)
  claim_labelled hs t = let e = claim_variables hs t in λ i. record { hyps = map (labelled ls) hs; conclusion = labelled ls t; variables = sym e i }
