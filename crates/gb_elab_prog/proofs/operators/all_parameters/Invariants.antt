use Rattle.std.proofs.Common.{◌≡◌, drop}
use Rattle.gb_elab_prog.specs.Contexts.{nothing_bound}
use Rattle.gb_elab_prog.specs.Operators.{all_parameters}
use Rattle.gb_elab_prog.proofs.operators.all_parameters.Given as goal

abbrev pub invariant-loop-x : goal.invariant-loop-x
invariant-loop-x l = all_parameters l.scope l.bound (drop l.x-index l.groups) ≡ all_parameters l.scope nothing_bound l.groups
