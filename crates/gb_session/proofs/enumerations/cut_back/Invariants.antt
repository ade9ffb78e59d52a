use Rattle.std.proofs.Common.{◌≡◌, length, take}
use Rattle.gb_session.proofs.enumerations.cut_back.Given as goal

-- the first few stay
abbrev pub invariant-loop-enumerations : goal.invariant-loop-enumerations
invariant-loop-enumerations l = take l.count l.enumerations ≡ take l.count l.fn.enumerations

abbrev pub decreases-loop-enumerations : goal.decreases-loop-enumerations
decreases-loop-enumerations l = length l.enumerations
