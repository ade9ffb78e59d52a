use Rattle.gb_typing.proofs.Once.{types_inhabited}
use Rattle.gb_typing.proofs.Operators.{scope_operators}
use Rattle.gb_typing.proofs.scope_laws.operators.Goals as goal

pub returns : goal.returns
returns x = record { types = types_inhabited; operators = scope_operators }
