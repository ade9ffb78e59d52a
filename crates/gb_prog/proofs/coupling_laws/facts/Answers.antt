use Rattle.std.proofs.Common.{◌≡◌, true}
use Rattle.gb_dist.specs.Coupling.{Passes}
use Rattle.gb_meaning.specs.Commands.{statements}
use Rattle.gb_prog.proofs.Couplings.{runs_facts}
use Rattle.gb_prog.proofs.coupling_laws.facts.Goals as goal

pub returns : goal.returns
returns x = λ g s is js h k I J R m n x y l. runs_facts g s (statements g is) (statements g js) h k (λ z. I z ≡ true) (λ z. J z ≡ true) (Passes R) m n x y l
