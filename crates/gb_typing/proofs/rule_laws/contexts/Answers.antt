use Rattle.gb_typing.proofs.Lifted.{sequent_outermost}
use Rattle.gb_typing.proofs.rule_laws.contexts.Goals as goal

pub returns : goal.returns
returns x = sequent_outermost
