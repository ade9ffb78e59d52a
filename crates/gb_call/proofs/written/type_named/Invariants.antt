use Rattle.std.proofs.Common.{◌≡◌, drop}
use Rattle.gb_meaning.specs.Written.{local_type}
use Rattle.gb_call.proofs.written.type_named.Given as goal

abbrev pub invariant-loop-x : goal.invariant-loop-x
invariant-loop-x l = local_type (drop l.x-index l.list) l.name ≡ local_type l.list l.name
