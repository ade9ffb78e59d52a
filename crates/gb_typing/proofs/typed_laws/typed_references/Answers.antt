use Rattle.gb_typing.proofs.Inside.{same_reference}
use Rattle.gb_typing.proofs.typed_laws.typed_references.Goals as goal

pub returns : goal.returns
returns x = same_reference
