use Rattle.gb_dist.specs.Coupling.{Passes}
use Rattle.gb_meaning.specs.Commands.{statements}
use Rattle.gb_prog.proofs.Couplings.{runs_gluing}
use Rattle.gb_prog.proofs.coupling_laws.gluing.Goals as goal

pub returns : goal.returns
returns x = λ g s is js ks h R Q S joins m n o k l. runs_gluing g s (statements g is) (statements g js) (statements g ks) h (Passes R) (Passes Q) (Passes S) joins m n o k l
