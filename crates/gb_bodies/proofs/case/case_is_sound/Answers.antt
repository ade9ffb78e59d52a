use Rattle.gb_bodies.proofs.CaseIsSound.{sound}
use Rattle.gb_bodies.proofs.case.case_is_sound.Goals as goal

pub returns : goal.returns
returns x = λ c f. sound c f
