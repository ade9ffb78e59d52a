use Rattle.gb_meaning.proofs.Links.{link-linked, linked-link}
use Rattle.gb_meaning.proofs.linking_laws.linked_programs.Goals as goal

pub returns-clause-unchanged : goal.returns-clause-unchanged
returns-clause-unchanged c = λ os p h. link-linked os p h

pub returns-clause-linked : goal.returns-clause-linked
returns-clause-linked c = λ os all p. linked-link os all p
