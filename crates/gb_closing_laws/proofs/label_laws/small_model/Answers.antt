use Rattle.gb_closing_laws.proofs.Modelled.{small_model}
use Rattle.gb_closing_laws.proofs.label_laws.small_model.Goals as goal

pub returns : goal.returns
returns c = small_model
