use Rattle.gb_arguments.proofs.PutProcedures.{types_put}
use Rattle.gb_arguments.proofs.led_laws.typed_procedures.Goals as goal

pub returns : goal.returns
returns c = λ before later scoped bs w es fit h r t e. types_put before later scoped bs w es fit h r t e
