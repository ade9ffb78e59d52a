use Rattle.std.proofs.Common.{◌≡◌, length, take}
use Rattle.gb_state.proofs.state.cut_back.Given as goal

-- the first few names stay
abbrev pub invariant-loop-names : goal.invariant-loop-names
invariant-loop-names l = take l.count l.names ≡ take l.count l.fn.names

abbrev pub decreases-loop-names : goal.decreases-loop-names
decreases-loop-names l = length l.names
