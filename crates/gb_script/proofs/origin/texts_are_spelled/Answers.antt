use Rattle.gb_script.proofs.Spelled.{tree_spelled}
use Rattle.gb_script.proofs.origin.texts_are_spelled.Goals as goal

pub returns : goal.returns
returns c = tree_spelled
