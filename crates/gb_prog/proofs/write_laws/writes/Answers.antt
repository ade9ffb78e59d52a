use Rattle.gb_prog.proofs.Writes.{within_written, run_differs, run_reads}
use Rattle.gb_prog.proofs.write_laws.writes.Goals as goal

pub returns : goal.returns
returns x = record { within = within_written; places = run_differs; reads = run_reads }
