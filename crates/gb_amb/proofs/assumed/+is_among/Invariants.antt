use Rattle.std.proofs.Common.{length}
use Rattle.gb_amb.proofs.assumed.+is_among.Given as goal

abbrev pub decreases-is_among : goal.decreases-is_among
decreases-is_among l = length l.hyps.now
