use Rattle.gb_prog.proofs.Calls.{arguments_typed, called_outcomes}
use Rattle.gb_prog.proofs.call_laws.judged_calls.Goals as goal

pub returns : goal.returns
returns x = record { arguments = arguments_typed; outcomes = called_outcomes }
