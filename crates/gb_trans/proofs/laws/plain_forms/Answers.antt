use Rattle.gb_trans.proofs.RulesAreSound.{forms_refused}
use Rattle.gb_trans.proofs.laws.plain_forms.Goals as goal

pub returns : goal.returns
returns x = forms_refused
