use Rattle.gb_language.proofs.Language.{text_spelled, line_spelled}
use Rattle.gb_language.proofs.laws.texts_are_spelled.Goals as goal

pub returns-clause-texts : goal.returns-clause-texts
returns-clause-texts c = text_spelled

pub returns-clause-lines : goal.returns-clause-lines
returns-clause-lines c = line_spelled
