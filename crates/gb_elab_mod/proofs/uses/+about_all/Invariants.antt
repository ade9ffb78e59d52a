use Rattle.std.proofs.Common.{length}
use Rattle.gb_elab_mod.proofs.uses.+about_all.Given as goal

abbrev pub decreases-about_all : goal.decreases-about_all
decreases-about_all l = length l.binders.now
