use Rattle.gb_prog.proofs.Calls.{call_alone, call_run, call_denominator}
use Rattle.gb_prog.proofs.call_laws.calls.Goals as goal

pub returns : goal.returns
returns x = record { alone = call_alone; run = call_run; denominator = call_denominator }
