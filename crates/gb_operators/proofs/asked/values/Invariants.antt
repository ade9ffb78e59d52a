use Rattle.std.proofs.Common.{◌≡◌, drop}
use Rattle.std.specs.List.{list_all}
use Rattle.gb_names.specs.Wanted.{type_of_term}
use Rattle.gb_operators.specs.Kinds.{is_of_values}
use Rattle.gb_operators.proofs.asked.values.Given as goal

abbrev pub invariant-loop-t : goal.invariant-loop-t
invariant-loop-t l = list_all (λ t. is_of_values (type_of_term t)) (drop l.t-index l.typed) ≡ list_all (λ t. is_of_values (type_of_term t)) l.typed
