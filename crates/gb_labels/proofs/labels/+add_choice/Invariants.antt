use Rattle.std.proofs.Common.{length}
use Rattle.gb_labels.proofs.labels.+add_choice.Given as goal

abbrev pub decreases-add_choice : goal.decreases-add_choice
decreases-add_choice l = length l.most.now
