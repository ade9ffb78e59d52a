use Rattle.gb_print.proofs.Steps.{procedure_is, program_is, statements_are}
use Rattle.gb_print.proofs.laws.subjects_are_made_of_parts.Goals as goal

pub returns-clause-procedure : goal.returns-clause-procedure
returns-clause-procedure c = procedure_is

pub returns-clause-program : goal.returns-clause-program
returns-clause-program c = program_is

pub returns-clause-statements : goal.returns-clause-statements
returns-clause-statements c = statements_are
