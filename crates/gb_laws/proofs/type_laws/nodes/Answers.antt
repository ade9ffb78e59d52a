use Rattle.gb_laws.proofs.Nodes.{node_typed, head_typed, arguments_typed, type_of_node}
use Rattle.gb_laws.proofs.type_laws.nodes.Goals as goal

pub returns : goal.returns
returns x = record { typed = node_typed; head = head_typed; arguments = arguments_typed; written = type_of_node }
