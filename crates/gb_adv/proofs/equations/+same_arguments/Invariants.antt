use Rattle.std.proofs.Common.{length}
use Rattle.gb_adv.proofs.equations.+same_arguments.Given as goal

abbrev pub decreases-same_arguments : goal.decreases-same_arguments
decreases-same_arguments l = length l.left.now
