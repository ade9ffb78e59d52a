use Rattle.gb_laws.proofs.Forms.{form_followed}
use Rattle.gb_laws.proofs.change_laws.changed_forms.Goals as goal

pub returns : goal.returns
returns c = λ g j fair f x u cs K s q a l i. form_followed g j fair f x u cs K s q a l i
