use Rattle.std.proofs.Common.{◌≡◌, drop}
use Rattle.std.specs.List.{list_any}
use Rattle.gb_instances.specs.Put.{stands_alone}
use Rattle.gb_instances.proofs.put.+stands_alone.Given as goal

abbrev pub invariant-any_stands_alone-loop-t : goal.invariant-any_stands_alone-loop-t
invariant-any_stands_alone-loop-t l = list_any (stands_alone l.name) (drop l.t-index l.list) ≡ list_any (stands_alone l.name) l.list
