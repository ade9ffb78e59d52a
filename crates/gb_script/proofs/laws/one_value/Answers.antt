use Rattle.gb_script.proofs.Frame.{one}
use Rattle.gb_script.proofs.laws.one_value.Goals as goal

pub returns : goal.returns
returns c = one
