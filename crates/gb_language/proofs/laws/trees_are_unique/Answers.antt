use Rattle.gb_language.proofs.Language.{one_text_tree, one_line_tree}
use Rattle.gb_language.proofs.laws.trees_are_unique.Goals as goal

pub returns-clause-texts : goal.returns-clause-texts
returns-clause-texts c = one_text_tree

pub returns-clause-lines : goal.returns-clause-lines
returns-clause-lines c = one_line_tree
