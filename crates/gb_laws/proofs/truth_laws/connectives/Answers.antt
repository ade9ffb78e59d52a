use Rattle.gb_meaning.proofs.Truths.{true_not, true_and, true_or, true_implies, true_iff, true_equal}
use Rattle.gb_laws.proofs.truth_laws.connectives.Goals as goal

pub returns : goal.returns
returns c = record { negation = true_not; conjunction = true_and; disjunction = true_or; implication = true_implies; equivalence = true_iff; equation = true_equal }
