use Rattle.gb_typing.proofs.ChosenInstances.{seen_in_goals}
use Rattle.gb_typing.proofs.linked_laws.seen_in_goals.Goals as goal

pub returns : goal.returns
returns c = λ ds q fs w n i e. seen_in_goals ds q fs w n i e
