use Rattle.std.proofs.Common.{◌≡◌, map, take, None}
use Rattle.gb_loops.specs.Read.{first_of, type_read}
use Rattle.gb_loops.proofs.read.+types.Given as goal

abbrev pub invariant-first_type-loop-i : goal.invariant-first_type-loop-i
invariant-first_type-loop-i l = first_of (map (type_read l.side l.variable) (take l.i l.list)) ≡ None
