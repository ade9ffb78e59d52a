use Rattle.gb_arguments.specs.Typed.{IsKnownIn}
use Rattle.gb_arguments.proofs.Typed.{reading_typed, typed_narrow}
use Rattle.gb_arguments.proofs.typed_laws.typed_readings.Goals as goal

pub returns : goal.returns
returns c = record { narrow = λ g ss w pf gs. typed_narrow g ss w pf gs; keeps = λ g ss w pf gs x. reading_typed g ss w pf gs (IsKnownIn g w) x }
