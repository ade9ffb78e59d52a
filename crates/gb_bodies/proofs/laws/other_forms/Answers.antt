use Rattle.gb_bodies.proofs.Others.{others_refused}
use Rattle.gb_bodies.proofs.laws.other_forms.Goals as goal

pub returns : goal.returns
returns x = others_refused
