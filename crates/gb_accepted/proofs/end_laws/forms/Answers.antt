use Rattle.gb_accepted.proofs.HeadsEnd.{bare_ends, typed_bare}
use Rattle.gb_accepted.proofs.end_laws.forms.Goals as goal

pub returns : goal.returns
returns x = λ ds q c w. bare_ends ds q (typed_bare c q.conclusion w)
