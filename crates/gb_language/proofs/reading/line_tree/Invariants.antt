use Rattle.gb_language.specs.Language.{goal_language, node_signatures, value_sorts, tree_sort}
use Rattle.gb_language.proofs.reading.line_tree.Given as goal

abbrev pub ghost-tree_of : goal.ghost-tree_of
ghost-tree_of g a = record { grammar = goal_language; language = node_signatures; sorts = value_sorts; part = g.given.part; sort = tree_sort g.given.part; kinds = g.given.kinds }
