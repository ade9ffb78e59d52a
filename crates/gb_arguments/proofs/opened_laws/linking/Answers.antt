use Rattle.gb_arguments.proofs.Linked.{statements_linked, routine_linked}
use Rattle.gb_arguments.proofs.opened_laws.linking.Goals as goal

pub returns : goal.returns
returns c = record {
  statements = λ g os f h is w. statements_linked os g f h is w;
  oracles = λ g ss os qs f all gs r w. routine_linked g ss os qs f all gs r w;
}
