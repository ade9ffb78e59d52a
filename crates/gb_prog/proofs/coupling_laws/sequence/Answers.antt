use Rattle.gb_dist.specs.Coupling.{Passes}
use Rattle.gb_prog.proofs.Couplings.{runs_sequence}
use Rattle.gb_prog.proofs.coupling_laws.sequence.Goals as goal

pub returns : goal.returns
returns x = λ g s is js ks ls R Q m n h k. runs_sequence g s is js ks ls (Passes R) (Passes Q) m n h k
