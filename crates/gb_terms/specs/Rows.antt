-- What stands in the rows of trees, in order, as lists.
use Rattle.std.specs.Prelude.{List, [], ◌∷◌}
use Rattle.gb_terms.specs.declared.module.Mexp.{Mexp, Row_of-Mexp, end_of-Mexp, more_of-Mexp}
use Rattle.gb_terms.specs.declared.term.Term.{Term, Row_of-Term, end_of-Term, more_of-Term}

abbrev pub terms_in : {n : _} → Row_of-Term n → List Term
terms_in end_of-Term = []
terms_in (more_of-Term t ts) = t ∷ terms_in ts

abbrev pub mexps_in : {n : _} → Row_of-Mexp n → List Mexp
mexps_in end_of-Mexp = []
mexps_in (more_of-Mexp m ms) = m ∷ mexps_in ms
