use Rattle.std.proofs.Common.{refl, ◌++◌}
use Rattle.gb_typing.specs.Scopes.{context_of}
use Rattle.gb_typing.proofs.Once.{types_inhabited}
use Rattle.gb_typing.proofs.Operators.{scope_operators}
use Rattle.gb_arguments.proofs.TypedFor.{all_typed}
use Rattle.gb_arguments.proofs.instance_laws.typed_arguments.Goals as goal

pub returns : goal.returns
returns c = λ before later scoped none speaks i chosen world results known bs w es fit cs given.
    all_typed before later scoped none speaks i chosen (scope_operators (before ++ later) i scoped (types_inhabited (before ++ later) i world) results) known
    bs es (context_of before) refl w fit cs given
