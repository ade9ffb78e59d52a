use Rattle.gb_inline.proofs.RulesAreSound.{forms_refused}
use Rattle.gb_inline.proofs.laws.untransformed_forms.Goals as goal

pub returns : goal.returns
returns x = forms_refused
