use Rattle.gb_trans.proofs.KillRowsAreSound.{forms_refused}
use Rattle.gb_trans.proofs.kill_laws.unkilled_forms.Goals as goal

pub returns : goal.returns
returns x = forms_refused
