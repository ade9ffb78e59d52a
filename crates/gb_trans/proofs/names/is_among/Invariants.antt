use Rattle.std.proofs.Common.{◌≡◌, drop}
use Rattle.gb_print_names.specs.BoundNames.{is_among}
use Rattle.gb_trans.proofs.names.is_among.Given as goal

abbrev pub invariant-loop-x : goal.invariant-loop-x
invariant-loop-x l = is_among (drop l.x-index l.names) l.name ≡ is_among l.names l.name
