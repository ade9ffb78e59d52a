use Rattle.gb_laws.proofs.Probabilities.{probability_node}
use Rattle.gb_laws.proofs.truth_laws.probabilities.Goals as goal

pub returns : goal.returns
returns c = probability_node
