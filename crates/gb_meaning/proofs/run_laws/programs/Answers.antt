use Rattle.gb_meaning.proofs.Runs.{run_positive, run_entries}
use Rattle.gb_meaning.proofs.Totals.{run_bounded, run_total}
use Rattle.gb_meaning.proofs.run_laws.programs.Goals as goal

pub returns : goal.returns
returns c = record { denominator = run_positive; entries = run_entries; at_most = run_bounded; full = run_total }
