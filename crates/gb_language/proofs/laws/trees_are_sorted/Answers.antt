use Rattle.gb_language.proofs.Language.{text_sorted, line_sorted}
use Rattle.gb_language.proofs.laws.trees_are_sorted.Goals as goal

pub returns-clause-texts : goal.returns-clause-texts
returns-clause-texts c = text_sorted

pub returns-clause-lines : goal.returns-clause-lines
returns-clause-lines c = line_sorted
