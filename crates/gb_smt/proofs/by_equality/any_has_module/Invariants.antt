use Rattle.std.proofs.Common.{◌≡◌, drop}
use Rattle.std.specs.List.{list_any}
use Rattle.gb_meaning.specs.Truth.{has_module}
use Rattle.gb_smt.proofs.by_equality.any_has_module.Given as goal

abbrev pub invariant-loop-t : goal.invariant-loop-t
invariant-loop-t l =
    list_any has_module (drop l.t-index l.list) ≡ list_any has_module l.list
