use Rattle.gb_meaning.proofs.Procedures.{in_module}
use Rattle.gb_meaning.proofs.module_laws.procedure_of_module.Goals as goal

pub returns : goal.returns
returns X c = λ read ms m ps qs p e f args. in_module read ms m ps qs p e f args
