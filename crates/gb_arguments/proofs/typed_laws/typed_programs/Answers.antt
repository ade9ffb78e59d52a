use Rattle.gb_typing.proofs.Once.{types_inhabited}
use Rattle.gb_typing.proofs.Operators.{scope_operators}
use Rattle.gb_arguments.proofs.OpenTyped.{open_is_typed}
use Rattle.gb_arguments.proofs.typed_laws.typed_programs.Goals as goal

pub returns : goal.returns
returns c = λ ds scoped speaks i chosen world results known m n t there fits asks.
    open_is_typed ds scoped speaks i chosen (scope_operators ds i scoped (types_inhabited ds i world) results) known m n t there fits asks
