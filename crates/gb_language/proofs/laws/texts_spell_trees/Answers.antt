use Rattle.gb_language.proofs.Language.{text_spells, line_spells}
use Rattle.gb_language.proofs.laws.texts_spell_trees.Goals as goal

pub returns-clause-texts : goal.returns-clause-texts
returns-clause-texts c = text_spells

pub returns-clause-lines : goal.returns-clause-lines
returns-clause-lines c = line_spells
