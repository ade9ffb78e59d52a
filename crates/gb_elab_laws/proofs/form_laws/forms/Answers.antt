use Rattle.gb_elab_laws.proofs.Forms.{elaborated_typed}
use Rattle.gb_elab_laws.proofs.form_laws.forms.Goals as goal

pub returns : goal.returns
returns x = λ globs. elaborated_typed {globs = globs}
