use Rattle.gb_laws.proofs.Running.{routine_holds}
use Rattle.gb_laws.proofs.program_laws.procedures.Goals as goal

pub returns : goal.returns
returns x = routine_holds
