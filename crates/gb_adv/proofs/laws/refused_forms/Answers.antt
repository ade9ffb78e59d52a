use Rattle.gb_adv.proofs.Others.{others_refused}
use Rattle.gb_adv.proofs.laws.refused_forms.Goals as goal

pub returns : goal.returns
returns x = others_refused
