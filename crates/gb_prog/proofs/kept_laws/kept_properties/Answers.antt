use Rattle.gb_prog.proofs.KeptRuns.{program_keeps, routine_keeps}
use Rattle.gb_prog.proofs.kept_laws.kept_properties.Goals as goal

pub returns : goal.returns
returns x = record {
  program = λ g ss names I os apart all c w s m i. program_keeps g ss I os all names apart c w s m i;
  procedure = λ g ss gs I os apart all r w vs G i. routine_keeps g ss I os all gs apart r w vs G i;
}
