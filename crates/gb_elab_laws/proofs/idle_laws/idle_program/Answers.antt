use Rattle.gb_elab_laws.proofs.Idle.{idle_within}
use Rattle.gb_elab_laws.proofs.idle_laws.idle_program.Goals as goal

pub returns : goal.returns
returns c = λ ds i b d h. idle_within ds i b d h
