use Rattle.gb_elab_laws.proofs.Occurring.{reads_stand}
use Rattle.gb_elab_laws.proofs.step_laws.locals_read.Goals as goal

pub returns : goal.returns
returns x = reads_stand
