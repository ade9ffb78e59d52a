use Rattle.std.proofs.Common.{◌≡◌, ◌++◌, map, take}
use Rattle.gb_walk.specs.Clash.{all_of, variables_read}
use Rattle.gb_call.proofs.reads.+reads.Given as goal

abbrev pub invariant-in_terms-loop-i : goal.invariant-in_terms-loop-i
invariant-in_terms-loop-i l = l.all ≡ l.fn.found ++ all_of (map (variables_read l.side) (take l.i l.list))
