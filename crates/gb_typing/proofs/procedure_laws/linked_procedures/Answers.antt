use Rattle.gb_typing.proofs.LinkedProcedures.{linked_there}
use Rattle.gb_typing.proofs.procedure_laws.linked_procedures.Goals as goal

pub returns : goal.returns
returns x = linked_there
