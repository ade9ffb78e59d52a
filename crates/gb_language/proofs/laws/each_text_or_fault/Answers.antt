use Rattle.gb_language.proofs.Language.{text_or_fault, line_or_fault}
use Rattle.gb_language.proofs.laws.each_text_or_fault.Goals as goal

pub returns-clause-texts : goal.returns-clause-texts
returns-clause-texts c = text_or_fault

pub returns-clause-lines : goal.returns-clause-lines
returns-clause-lines c = line_or_fault
