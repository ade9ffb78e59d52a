use Rattle.std.proofs.Common.{[]}
use Rattle.gb_typing.proofs.Models.{each_chosen}
use Rattle.gb_typing.proofs.scope_laws.programs.Goals as goal

pub returns : goal.returns
returns x = λ ds scope q binders. each_chosen ds scope q binders []
