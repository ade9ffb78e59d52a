use Rattle.std.proofs.Common.{◌≡◌, true}
use Rattle.gb_prog.proofs.Carried.{each_carried, each_procedure}
use Rattle.gb_prog.proofs.adversary_laws.carried.Goals as goal

pub returns : goal.returns
returns x = λ p step. (each_carried (λ s. p s ≡ true) step, each_procedure (λ s. p s ≡ true) step)
