use Rattle.gb_prog.proofs.Calls.{returned_local, returned_global}
use Rattle.gb_prog.proofs.call_laws.returns.Goals as goal

pub returns : goal.returns
returns x = record { local = returned_local; global = returned_global }
