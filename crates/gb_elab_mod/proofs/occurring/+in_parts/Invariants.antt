use Rattle.std.proofs.Common.{length}
use Rattle.gb_elab_mod.proofs.occurring.+in_parts.Given as goal

abbrev pub decreases-in_parts : goal.decreases-in_parts
decreases-in_parts l = length l.vars.now
