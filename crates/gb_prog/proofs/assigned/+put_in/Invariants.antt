use Rattle.std.proofs.Common.{length}
use Rattle.gb_prog.proofs.assigned.+put_in.Given as goal

abbrev pub decreases-put_in : goal.decreases-put_in
decreases-put_in l = length l.targets.now
