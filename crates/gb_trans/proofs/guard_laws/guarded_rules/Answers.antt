use Rattle.gb_trans.proofs.GuardsAreSound.{each_sound}
use Rattle.gb_trans.proofs.guard_laws.guarded_rules.Goals as goal

pub returns : goal.returns
returns x = each_sound
