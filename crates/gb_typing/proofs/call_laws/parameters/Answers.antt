use Rattle.gb_typing.proofs.Parameters.{one_start_typed, one_start, two_starts_typed, two_starts}
use Rattle.gb_typing.proofs.call_laws.parameters.Goals as goal

pub returns : goal.returns
returns x = record { one_typed = one_start_typed; one = one_start; pair_typed = two_starts_typed; pair = two_starts }
