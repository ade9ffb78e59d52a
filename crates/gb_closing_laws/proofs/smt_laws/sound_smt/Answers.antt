use Rattle.gb_closing_laws.proofs.SmtIsSound.{closed_holds}
use Rattle.gb_closing_laws.proofs.smt_laws.sound_smt.Goals as goal

pub returns : goal.returns
returns c = λ ds scope q t known forms closed held. closed_holds ds scope q t known forms closed held
