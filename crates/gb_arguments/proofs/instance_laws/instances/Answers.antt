use Rattle.std.proofs.Common.{◌++◌}
use Rattle.gb_meaning.specs.Settings.{types_of}
use Rattle.gb_typing.proofs.PlainGlobals.{plain_world}
use Rattle.gb_arguments.proofs.Instances.{instance_true}
use Rattle.gb_arguments.proofs.instance_laws.instances.Goals as goal

pub returns : goal.returns
returns c = λ before later scoped first none i chosen types model q t es fit within holds alone front form names speaks vs values ms.
    instance_true before later scoped first none i chosen (plain_world (types_of (before ++ later) i) i.world types) model q t es fit within holds alone front form names speaks vs values ms
