use Rattle.gb_laws.proofs.Running.{all_written, read_back}
use Rattle.gb_laws.proofs.program_laws.assignments.Goals as goal

pub returns : goal.returns
returns x = record { held = all_written; read_back = read_back }
