use Rattle.gb_prog.proofs.KeptOff.{kept_off}
use Rattle.gb_prog.proofs.adversary_laws.kept_off.Goals as goal

pub returns : goal.returns
returns x = kept_off
