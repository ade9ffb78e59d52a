use Rattle.gb_typing.proofs.Inside.{typed_instance}
use Rattle.gb_typing.proofs.typed_laws.typed_instances.Goals as goal

pub returns : goal.returns
returns x = typed_instance
