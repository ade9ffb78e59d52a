use Rattle.gb_typing.specs.Naming.{NoName}
use Rattle.gb_elab_laws.proofs.MoreNames.{parts}
use Rattle.gb_elab_laws.proofs.stay_laws.parts_of_scopes.Goals as goal

pub returns : goal.returns
returns c = parts NoName
