use Rattle.gb_meaning.specs.Settings.{types_of}
use Rattle.std.proofs.Common.{refl, [], ◌++◌}
use Rattle.gb_typing.specs.Scopes.{context_of}
use Rattle.gb_typing.proofs.PlainGlobals.{plain_world}
use Rattle.gb_arguments.proofs.Within.{all_within}
use Rattle.gb_arguments.proofs.instance_laws.arguments_within.Goals as goal

pub returns : goal.returns
returns c = λ before later scoped i types once bs w es typed given. all_within before later scoped i (plain_world (types_of (before ++ later) i) i.world types) once bs es (context_of before) refl w typed [] given
