use Rattle.std.proofs.Common.{length}
use Rattle.gb_elab_stmt.proofs.targets.+is_written.Given as goal

abbrev pub decreases-is_written : goal.decreases-is_written
decreases-is_written l = length l.targets.now
