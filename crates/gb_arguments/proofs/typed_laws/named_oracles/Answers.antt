use Rattle.gb_arguments.proofs.Typed.{called_typed_by}
use Rattle.gb_arguments.proofs.typed_laws.named_oracles.Goals as goal

pub returns : goal.returns
returns c = λ ds t s g gs r k a. called_typed_by ds t s g gs r k a
