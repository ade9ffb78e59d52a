use Rattle.gb_script.proofs.Frame.{frames}
use Rattle.gb_script.proofs.laws.derivations_frame.Goals as goal

pub returns : goal.returns
returns c = λ t width g ok ss at kinds steps d. frames t width g ok d
