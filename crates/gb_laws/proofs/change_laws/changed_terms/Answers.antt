use Rattle.gb_laws.proofs.Changing.{plain_followed, denominator_changed}
use Rattle.gb_laws.proofs.change_laws.changed_terms.Goals as goal

pub returns-clause-meaning : goal.returns-clause-meaning
returns-clause-meaning c = λ g j t f p cs K s q a l i. plain_followed g j t f p cs K s q a l i

pub returns-clause-denominator : goal.returns-clause-denominator
returns-clause-denominator c = denominator_changed
