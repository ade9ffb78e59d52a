use Rattle.std.proofs.Common.{length}
use Rattle.gb_labels.proofs.labels.+choices.Given as goal

abbrev pub decreases-choices : goal.decreases-choices
decreases-choices l = length l.most.now
