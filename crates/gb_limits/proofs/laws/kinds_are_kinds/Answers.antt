use Rattle.gb_script.specs.declared.text.Text.{Text}
use Rattle.gb_limits.proofs.AllKinds.{all_kinds}
use Rattle.gb_limits.proofs.laws.kinds_are_kinds.Goals as goal

pub returns : goal.returns
returns c = λ (t : Text). all_kinds t.lexemes
