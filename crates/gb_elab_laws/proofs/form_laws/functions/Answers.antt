use Rattle.gb_elab_laws.proofs.Forms.{function_typed}
use Rattle.gb_elab_laws.proofs.form_laws.functions.Goals as goal

pub returns : goal.returns
returns x = λ globs. function_typed {globs = globs}
