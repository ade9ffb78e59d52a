use Rattle.gb_trans.proofs.KillRowsAreSound.{each_sound}
use Rattle.gb_trans.proofs.kill_laws.killing_rules.Goals as goal

pub returns : goal.returns
returns x = each_sound
