-- Terms with one term in place of another one, layer by layer.
use Rattle.std.proofs.Common.{◌≡◌, Bool, true, false, ◌||◌, if◌then◌else◌, List, ◌∷◌, Result, refl, ap, sym, subst, ◌∙◌}
use Rattle.std.specs.Prelude.{IfOk}
use Rattle.std.specs.declared.alloc.AllocError.{AllocError}
use Rattle.gb_terms.specs.declared.term.Head.{Head}
use Rattle.gb_terms.specs.declared.term.Term.{Term, Term', Row_of-Term, end_of-Term, more_of-Term, end_of-Head, more_of-Head, out-Term}
use Rattle.gb_terms.specs.Make.{node}
use Rattle.gb_meaning.specs.Commands.{terms_in}
use Rattle.gb_laws.proofs.Trees.{out_is}
use Rattle.gb_steps.specs.First.{is_quotient}
use Rattle.gb_prog.specs.Same.{is_same}
use Rattle.gb_rewrite.specs.Rewritten.{rewritten, parts_rewritten, list_rewritten, stands, stands_in_parts, stands_in_list}
use mathlib.Core.Former.{Count}

module _ (a b : Term) where
  parts_are : {n : Count} (d : Bool) (ts : Row_of-Term n) → parts_rewritten a b d ts ≡ list_rewritten a b d (terms_in ts)
  parts_are true end_of-Term = refl
  parts_are false end_of-Term = refl
  parts_are true (more_of-Term t ts) = refl
  parts_are false (more_of-Term t ts) = ap (λ us. rewritten a b t ∷ us) (parts_are false ts)

  pub rewritten_out : (t : Term) → rewritten a b t
      ≡ (if is_same t a then b else node (out-Term t).head (list_rewritten a b (is_quotient (out-Term t).head) (out-Term t).args) (out-Term t).ty)
  rewritten_out (Term' tt (more_of-Head h end_of-Head) n ts ty) =
      ap (λ us. if is_same (Term' tt (more_of-Head h end_of-Head) n ts ty) a then b else node h us ty) (parts_are (is_quotient h) ts)
      ∙ ap (λ x. if is_same (Term' tt (more_of-Head h end_of-Head) n ts ty) a then b else node x.head (list_rewritten a b (is_quotient x.head) x.args) x.ty)
      (sym (out_is h n ts ty))

  -- what comes of a term: b, or a node with other arguments
  pub other_term : (t : Term) (r : Result Term AllocError) → true ≡ is_same t a → IfOk r (λ made. made ≡ b) → IfOk r (λ made. made ≡ rewritten a b t)
  other_term t r s h =
      subst (λ u. IfOk r (λ made. made ≡ u))
      (ap (λ s. if s then b else node (out-Term t).head (list_rewritten a b (is_quotient (out-Term t).head) (out-Term t).args) (out-Term t).ty) s ∙ sym (rewritten_out t)) h

  pub other_args : (t : Term) (r : Result Term AllocError) (h : Head) (q : Bool) (ts us : List Term) → false ≡ is_same t a → h ≡ (out-Term t).head → q ≡ is_quotient h → ts ≡ (out-Term t).args →
      us ≡ list_rewritten a b q ts → IfOk r (λ made. made ≡ node (out-Term t).head us (out-Term t).ty) → IfOk r (λ made. made ≡ rewritten a b t)
  other_args t r h q ts us s eh eq et eu g =
      subst (λ u. IfOk r (λ made. made ≡ u))
      (ap (λ us. node (out-Term t).head us (out-Term t).ty) (eu ∙ (λ i. list_rewritten a b ((eq ∙ ap is_quotient eh) i) (et i)))
      ∙ ap (λ s. if s then b else node (out-Term t).head (list_rewritten a b (is_quotient (out-Term t).head) (out-Term t).args) (out-Term t).ty) s
      ∙ sym (rewritten_out t)) g

module _ (a : Term) where
  parts_stand : {n : Count} (d : Bool) (ts : Row_of-Term n) → stands_in_parts a d ts ≡ stands_in_list a d (terms_in ts)
  parts_stand true end_of-Term = refl
  parts_stand false end_of-Term = refl
  parts_stand true (more_of-Term t ts) = refl
  parts_stand false (more_of-Term t ts) = ap (λ z. stands a t || z) (parts_stand false ts)

  pub stands_out : (t : Term) → stands a t ≡ (is_same t a || stands_in_list a (is_quotient (out-Term t).head) (out-Term t).args)
  stands_out (Term' tt (more_of-Head h end_of-Head) n ts ty) =
      ap (λ z. is_same (Term' tt (more_of-Head h end_of-Head) n ts ty) a || z) (parts_stand (is_quotient h) ts)
      ∙ ap (λ x. is_same (Term' tt (more_of-Head h end_of-Head) n ts ty) a || stands_in_list a (is_quotient x.head) x.args) (sym (out_is h n ts ty))
