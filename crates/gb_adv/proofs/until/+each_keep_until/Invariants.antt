use Rattle.std.proofs.Common.{length}
use Rattle.gb_adv.proofs.until.+each_keep_until.Given as goal

abbrev pub decreases-each_keep_until : goal.decreases-each_keep_until
decreases-each_keep_until l = length l.left.now
