use Rattle.gb_bodies.proofs.ProcIsSound.{sound}
use Rattle.gb_bodies.proofs.proc.proc_is_sound.Goals as goal

pub returns : goal.returns
returns x = sound
