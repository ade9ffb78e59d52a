use Rattle.std.proofs.Common.{◌≡◌, map, take}
use Rattle.gb_names.specs.Wanted.{type_of_term}
use Rattle.gb_operators.proofs.made.types_of.Given as goal

abbrev pub invariant-loop-t : goal.invariant-loop-t
invariant-loop-t l = l.all ≡ map type_of_term (take l.t-index l.terms)
