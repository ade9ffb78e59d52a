use Rattle.gb_meaning.proofs.SameTerms.{same_terms}
use Rattle.gb_meaning.proofs.equality_laws.typed_trees.Goals as goal

pub returns : goal.returns
returns x = same_terms
