use Rattle.gb_prog.proofs.Runs.{program_coupled, routine_coupled}
use Rattle.gb_prog.proofs.coupled_laws.coupled_programs.Goals as goal

pub returns : goal.returns
returns x = record {
  program = λ g ss names R os qs kept alike c w s m n r. program_coupled g ss R os qs names kept alike c w s m n r;
  procedure = λ g ss gs R os qs kept alike r w vs G H e i. routine_coupled g ss R os qs gs kept alike r w vs G H e i;
}
