use Rattle.gb_script.proofs.Leaves.{leaves_of, tree_leaves}
use Rattle.gb_script.proofs.origin.leaves_are_tokens.Goals as goal

pub returns-clause-built : goal.returns-clause-built
returns-clause-built c = leaves_of

pub returns-clause-trees : goal.returns-clause-trees
returns-clause-trees c = tree_leaves
