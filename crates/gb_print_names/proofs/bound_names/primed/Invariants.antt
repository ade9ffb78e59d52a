use Rattle.std.proofs.Common.{◌≡◌, ◌-◌, List}
use Rattle.gb_print_names.specs.declared.bound_names.Known.{Known}
use Rattle.gb_print_names.specs.BoundNames.{is_taken, place, primed}
use Rattle.gb_print_names.proofs.bound_names.primed.Given as goal

abbrev pub invariant-loop-tried : goal.invariant-loop-tried
invariant-loop-tried l =
    (bound : List Known) → primed (l.most - l._tried) (is_taken (place l.at bound)) l.name ≡ primed l.most (is_taken (place l.at bound)) l.initial.name
