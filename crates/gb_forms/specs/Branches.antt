-- What is to hold before a branch.
use Rattle.gb_terms.specs.declared.term.Term.{Term}
use Rattle.gb_typing.specs.Forms.{and_form, implies_form, not_form}

-- what is so where a test is true, and what where it is false
abbrev pub by_test : Term → Term → Term → Term
by_test e a b = and_form (implies_form e a) (implies_form (not_form e) b)
