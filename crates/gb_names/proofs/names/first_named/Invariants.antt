use Rattle.std.proofs.Common.{◌≡◌, drop}
use Rattle.gb_names.specs.Names.{first_named}
use Rattle.gb_names.proofs.names.first_named.Given as goal

abbrev pub invariant-loop-x : goal.invariant-loop-x
invariant-loop-x l = first_named (drop l.x-index l.list) l.name ≡ first_named l.list l.name
