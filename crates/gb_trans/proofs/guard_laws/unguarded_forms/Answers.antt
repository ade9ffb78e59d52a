use Rattle.gb_trans.proofs.GuardsAreSound.{forms_refused}
use Rattle.gb_trans.proofs.guard_laws.unguarded_forms.Goals as goal

pub returns : goal.returns
returns x = forms_refused
