use Rattle.gb_call_both.proofs.Others.{others_refused}
use Rattle.gb_call_both.proofs.laws.other_conclusions.Goals as goal

pub returns : goal.returns
returns x = others_refused
