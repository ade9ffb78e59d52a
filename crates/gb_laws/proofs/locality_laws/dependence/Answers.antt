use Rattle.gb_laws.specs.Cells.{Among}
use Rattle.gb_laws.proofs.Kept.{kept_agrees}
use Rattle.gb_laws.proofs.NearRuns.{run_depends, routine_depends}
use Rattle.gb_laws.proofs.locality_laws.dependence.Goals as goal

pub returns : goal.returns
returns c = record { program = run_depends; procedure = routine_depends; agreement = λ t l m n a b h e. kept_agrees t (Among l) m n a b h e }
