use Rattle.gb_limits.proofs.Firsts.{one_left_out, one_too_deep, one_long, one_first_overflow}
use Rattle.gb_limits.proofs.laws.first_places_are_unique.Goals as goal

pub returns : goal.returns
returns c = record { left_out = one_left_out; deep = one_too_deep; long = one_long; overflow = one_first_overflow }
