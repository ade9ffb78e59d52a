use Rattle.gb_typing.proofs.Called.{called_run, called_denominator}
use Rattle.gb_typing.proofs.call_laws.runs.Goals as goal

pub returns : goal.returns
returns x = record { run = called_run; denominator = called_denominator }
