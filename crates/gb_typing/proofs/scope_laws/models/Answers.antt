use Rattle.gb_typing.proofs.Models.{each_setting}
use Rattle.gb_typing.proofs.scope_laws.models.Goals as goal

pub returns : goal.returns
returns x = each_setting
