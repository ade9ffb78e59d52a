use Rattle.gb_trans.proofs.RulesAreSound.{each_ends, each_sound}
use Rattle.gb_trans.proofs.laws.transformations.Goals as goal

pub returns : goal.returns
returns x = record { everywhere = each_sound; loops = each_ends }
