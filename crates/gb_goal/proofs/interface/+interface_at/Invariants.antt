use Rattle.std.proofs.Common.{◌≡◌, drop, map}
use Rattle.std.specs.Option.{option_copied}
use Rattle.gb_goal.specs.Interfaces.{interface_at, left_over}
use Rattle.gb_goal.proofs.interface.+interface_at.Given as goal

abbrev pub invariant-left_over-loop-e : goal.invariant-left_over-loop-e
invariant-left_over-loop-e l = left_over l.scope l.left (map (interface_at l.scope (option_copied l.around)) (drop l.e-index l.args))
    ≡ left_over l.scope l.params (map (interface_at l.scope (option_copied l.around)) l.args)
