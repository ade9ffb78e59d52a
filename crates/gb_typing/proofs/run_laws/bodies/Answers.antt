use Rattle.gb_typing.proofs.Exact.{code_sound}
use Rattle.gb_typing.proofs.Runs.{run_append, denominator_append}
use Rattle.gb_typing.proofs.run_laws.bodies.Goals as goal

pub returns : goal.returns
returns x = record { run = run_append; denominator = denominator_append; sound = code_sound }
