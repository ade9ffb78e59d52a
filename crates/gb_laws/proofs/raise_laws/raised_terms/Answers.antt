use Rattle.gb_laws.proofs.Raising.{plain_steady, denominator_raised}
use Rattle.gb_laws.proofs.raise_laws.raised_terms.Goals as goal

pub returns-clause-meaning : goal.returns-clause-meaning
returns-clause-meaning c = λ g j t f p k s q l. plain_steady g j t f p k s q l

pub returns-clause-denominator : goal.returns-clause-denominator
returns-clause-denominator c = denominator_raised
