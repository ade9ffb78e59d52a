use Rattle.gb_typing.proofs.Inside.{typed_plain}
use Rattle.gb_typing.proofs.typed_laws.plain_procedures.Goals as goal

pub returns : goal.returns
returns x = typed_plain
