use Rattle.gb_laws.proofs.Running.{run_holds}
use Rattle.gb_laws.proofs.program_laws.programs.Goals as goal

pub returns : goal.returns
returns x = run_holds
