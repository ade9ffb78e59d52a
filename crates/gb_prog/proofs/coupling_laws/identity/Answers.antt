use Rattle.std.proofs.Common.{◌≡◌, true}
use Rattle.gb_meaning.specs.Commands.{statements}
use Rattle.gb_prog.proofs.Couplings.{runs_identity}
use Rattle.gb_prog.proofs.coupling_laws.identity.Goals as goal

pub returns : goal.returns
returns x = λ g s is h I m k. runs_identity g s (statements g is) h (λ n. I n ≡ true) m k
