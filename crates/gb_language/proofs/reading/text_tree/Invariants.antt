use Rattle.gb_language.specs.Language.{language, node_signatures, value_sorts, tree_sort}
use Rattle.gb_language.proofs.reading.text_tree.Given as goal

abbrev pub ghost-tree_of : goal.ghost-tree_of
ghost-tree_of g a = record { grammar = language; language = node_signatures; sorts = value_sorts; part = g.given.part; sort = tree_sort g.given.part; kinds = g.given.kinds }
