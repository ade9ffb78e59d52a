use Rattle.gb_amb.proofs.UseIsSound.{instance_holds}
use Rattle.gb_amb.proofs.using_laws.instances_hold.Goals as goal

pub returns : goal.returns
returns c = instance_holds
