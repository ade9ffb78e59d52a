use Rattle.gb_language.proofs.Language.{one_derivation, one_line_derivation}
use Rattle.gb_language.proofs.laws.steps_are_unique.Goals as goal

pub returns-clause-texts : goal.returns-clause-texts
returns-clause-texts c = one_derivation

pub returns-clause-lines : goal.returns-clause-lines
returns-clause-lines c = one_line_derivation
