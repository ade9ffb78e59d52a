use Rattle.gb_arguments.proofs.Typed.{relinked_routine_typed}
use Rattle.gb_arguments.proofs.typed_laws.relinked_programs.Goals as goal

pub returns : goal.returns
returns c = λ g few ss gs f all r k. relinked_routine_typed g few ss gs f all r k
