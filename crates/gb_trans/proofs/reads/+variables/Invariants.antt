use Rattle.std.proofs.Common.{◌≡◌, ◌++◌, map, take}
use Rattle.gb_walk.specs.Clash.{all_of, variables_read}
use Rattle.gb_trans.proofs.reads.+variables.Given as goal

abbrev pub invariant-each_variables_read-loop-i : goal.invariant-each_variables_read-loop-i
invariant-each_variables_read-loop-i l = l.all ≡ l.fn.found ++ all_of (map (variables_read l.side) (take l.i l.list))
