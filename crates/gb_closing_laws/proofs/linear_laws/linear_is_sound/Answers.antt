use Rattle.gb_closing_laws.proofs.LinearIsSound.{closed_holds}
use Rattle.gb_closing_laws.proofs.linear_laws.linear_is_sound.Goals as goal

pub returns : goal.returns
returns c = λ ds scope q t ms place qs e. closed_holds ds scope q t ms place qs e
