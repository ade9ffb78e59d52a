use Rattle.std.proofs.Common.{◌≡◌, ◌-◌, length}
use Rattle.gb_print_names.specs.BoundNames.{is_among, primed}
use Rattle.gb_loops.proofs.variants.unlike.Given as goal

abbrev pub invariant-loop-tried : goal.invariant-loop-tried
invariant-loop-tried l = primed (length l.taken - l._tried) (is_among l.taken) l.name ≡ primed (length l.taken) (is_among l.taken) l.initial.name
