use Rattle.gb_meaning.proofs.MoreGlobals.{routine-more}
use Rattle.gb_meaning.proofs.LinkedTypes as linked
use Rattle.gb_meaning.proofs.linking_laws.programs_as_oracles.Goals as goal

pub returns : goal.returns
returns c = record {
  typed = λ g ss w gs a r h. routine-more g ss w gs a r h;
  answers = λ g ss w os all s gs a r t h. linked.is_answer g ss w os all s gs a r t h;
}
