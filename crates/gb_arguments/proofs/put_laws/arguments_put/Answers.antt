use Rattle.gb_arguments.proofs.PutModules.{arguments}
use Rattle.gb_arguments.proofs.put_laws.arguments_put.Goals as goal

pub returns : goal.returns
returns c = λ ds i scoped over once known types ps es d procedures t k w u z s. arguments ds i scoped over once known ps es types d procedures t k w u z s
