use Rattle.gb_typing.specs.Naming.{NoName}
use Rattle.gb_arguments.proofs.Names.{procedures_speak}
use Rattle.gb_arguments.proofs.name_laws.linked_procedures.Goals as goal

pub returns : goal.returns
returns c = λ ds scoped speaks i chosen h bs w k r t e. procedures_speak NoName ds scoped speaks i chosen h bs w k r t e
