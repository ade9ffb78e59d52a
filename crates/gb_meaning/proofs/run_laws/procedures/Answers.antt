use Rattle.gb_meaning.proofs.Runs.{routine_positive, routine_entries}
use Rattle.gb_meaning.proofs.Totals.{routine_bounded, routine_total}
use Rattle.gb_meaning.proofs.run_laws.procedures.Goals as goal

pub returns : goal.returns
returns c = record { denominator = routine_positive; entries = routine_entries; at_most = routine_bounded; full = routine_total }
