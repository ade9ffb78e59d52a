use Rattle.gb_laws.proofs.Commutes.{run_commutes, routine_commutes}
use Rattle.gb_laws.proofs.locality_laws.commutation.Goals as goal

pub returns : goal.returns
returns c = record { program = run_commutes; procedure = routine_commutes }
