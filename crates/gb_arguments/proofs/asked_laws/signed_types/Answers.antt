use Rattle.gb_arguments.proofs.TypesSigned.{types_signed}
use Rattle.gb_arguments.proofs.asked_laws.signed_types.Goals as goal

pub returns : goal.returns
returns c = λ ds scoped n t e. types_signed ds scoped n t e
