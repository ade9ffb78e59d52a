use Rattle.gb_meaning.proofs.Nodes.{val_node, denominator_node}
use Rattle.gb_meaning.proofs.tree_laws.terms.Goals as goal

pub returns : goal.returns
returns c = record { meaning = val_node; denominator = denominator_node }
