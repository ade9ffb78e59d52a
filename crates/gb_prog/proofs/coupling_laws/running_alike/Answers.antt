use Rattle.gb_prog.proofs.Couplings.{alike_between, alike_joined, alike_back}
use Rattle.gb_prog.proofs.coupling_laws.running_alike.Goals as goal

pub returns : goal.returns
returns x = record { symmetric = alike_back; transitive = alike_joined; around = alike_between }
