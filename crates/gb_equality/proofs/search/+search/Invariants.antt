use Rattle.std.proofs.Common.{sum}
use Rattle.gb_equality.proofs.search.+search.Given as goal

abbrev pub decreases-search : goal.decreases-search
decreases-search l = sum l.labels.now
