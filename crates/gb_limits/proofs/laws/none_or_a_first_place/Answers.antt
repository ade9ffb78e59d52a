use Rattle.gb_limits.proofs.Search.{left_out, too_deep, long, overflow}
use Rattle.gb_limits.proofs.laws.none_or_a_first_place.Goals as goal

pub returns : goal.returns
returns c = record { left_out = left_out; deep = too_deep; long = long; overflow = overflow }
