use Rattle.std.proofs.Common.{length}
use Rattle.gb_adv.proofs.oracles.+own_names.Given as goal

abbrev pub decreases-own_names : goal.decreases-own_names
decreases-own_names l = length l.params.now
