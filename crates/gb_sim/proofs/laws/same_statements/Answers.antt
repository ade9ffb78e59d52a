use Rattle.gb_sim.proofs.SimIsSound.{ends, sound}
use Rattle.gb_sim.proofs.laws.same_statements.Goals as goal

pub returns : goal.returns
returns x = record { sound = λ ds scoped q t ls rs G. sound ds scoped q t ls rs G; ends = λ ds G Gs e g. ends ds g Gs G e }
