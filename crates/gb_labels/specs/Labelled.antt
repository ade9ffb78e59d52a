-- Terms with labels in place of the values of modules' globals.
use Rattle.gb_terms.specs.declared.term.Term.{Term, Term', Row_of-Term, end_of-Term, more_of-Term, end_of-Head, more_of-Head}
use Rattle.gb_terms.specs.declared.term.Head.{Head}
use Rattle.gb_terms.specs.declared.term.Head.TheVariants as head
use Rattle.gb_labels.specs.Labels.{Labels, labelled_ty}

abbrev pub labelled_head : Labels → Head → Head
labelled_head ls (head.All u) = head.All (labelled_ty ls u)
labelled_head ls (head.Some u) = head.Some (labelled_ty ls u)
labelled_head ls h = h

abbrev mutual
  -- each type in the term with labels; programs in it stay as they are
  pub labelled : Labels → Term → Term
  labelled ls (Term' p (more_of-Head h end_of-Head) n ts t) = Term' p (more_of-Head (labelled_head ls h) end_of-Head) n (all_labelled ls ts) (labelled_ty ls t)

  pub all_labelled : {n : _} → Labels → Row_of-Term n → Row_of-Term n
  all_labelled ls end_of-Term = end_of-Term
  all_labelled ls (more_of-Term t ts) = more_of-Term (labelled ls t) (all_labelled ls ts)
