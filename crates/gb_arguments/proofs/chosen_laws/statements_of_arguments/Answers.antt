use Rattle.std.proofs.Common.{◌++◌}
use Rattle.gb_meaning.specs.Settings.{types_of}
use Rattle.gb_typing.proofs.PlainGlobals.{plain_world}
use Rattle.gb_arguments.proofs.Standing.{said_same}
use Rattle.gb_arguments.proofs.chosen_laws.statements_of_arguments.Goals as goal

pub returns : goal.returns
returns c = λ before later scoped none i chosen types q binders es fit free fs names f w e k s.
    said_same before later scoped none i chosen (plain_world (types_of (before ++ later) i) i.world types) q binders es fit free fs names f w e k s
