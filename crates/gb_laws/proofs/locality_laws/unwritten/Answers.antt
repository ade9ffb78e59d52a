use Rattle.gb_laws.proofs.Leaves.{run_leaves, routine_leaves}
use Rattle.gb_laws.proofs.locality_laws.unwritten.Goals as goal

pub returns : goal.returns
returns c = record { program = run_leaves; procedure = routine_leaves }
