-- The first probability in a term, by its parts.
use Rattle.std.proofs.Common.{◌≡◌, Bool, true, false, refl, ap, sym, ◌∙◌}
use Rattle.gb_core.specs.declared.ty.Ty.{Ty}
use Rattle.gb_terms.specs.declared.term.Term.{Term, Term', Row_of-Term, end_of-Term, more_of-Term, end_of-Head, more_of-Head, out-Term, items-the_row-Term, items_shown-the_row-Term-0, outs-Term'}
use Rattle.gb_terms.specs.declared.term.Head.{Head}
use Rattle.gb_terms.specs.declared.term.Head.TheBlock as B
use Rattle.gb_steps.specs.First.{is_quotient, or_else, procedure_at, first_procedure, first_among, first_in_list}
use mathlib.Core.Former.{Count}

among_is : {n : Count} (d : Bool) (ts : Row_of-Term n) → first_among d ts ≡ first_in_list d (items-the_row-Term n ts)
among_is true end_of-Term = refl
among_is false end_of-Term = refl
among_is true (more_of-Term t ts) = refl
among_is false (more_of-Term t ts) = ap (or_else (first_procedure t)) (among_is false ts)

shown_head : (h : Head) → B.shown-the_row-Head-2 tt (more_of-Head h end_of-Head) ≡ h
unfolding B.shown-the_row-Head-2 denote.Hole.Carrier.shown
shown_head h = refl

out_is : (p : _) (h : Head) (n : _) (ts : _) (ty : Ty) → out-Term (Term' p (more_of-Head h end_of-Head) n ts ty) ≡ record { head = h; args = items-the_row-Term _ ts; ty = ty }
out_is p h n ts ty =
    let args = items_shown-the_row-Term-0 n ts in
    outs-Term' p (more_of-Head h end_of-Head) n ts ty ∙ (λ i. record { head = shown_head h i; args = args i; ty = ty })

pub first_out : (t : Term) →
    first_procedure t ≡ or_else (procedure_at (out-Term t).head) (first_in_list (is_quotient (out-Term t).head) (out-Term t).args)
first_out (Term' p (more_of-Head h end_of-Head) n ts ty) =
    ap (or_else (procedure_at h)) (among_is (is_quotient h) ts)
    ∙ ap (λ x. or_else (procedure_at x.head) (first_in_list (is_quotient x.head) x.args)) (sym (out_is p h n ts ty))
