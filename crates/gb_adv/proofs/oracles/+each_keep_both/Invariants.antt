use Rattle.std.proofs.Common.{length}
use Rattle.gb_adv.proofs.oracles.+each_keep_both.Given as goal

abbrev pub decreases-each_keep_both : goal.decreases-each_keep_both
decreases-each_keep_both l = length l.left.now
