use Rattle.gb_typing.proofs.Fronts.{front_ambient}
use Rattle.gb_typing.proofs.goal_laws.fronts.Goals as goal

pub returns : goal.returns
returns x = front_ambient
