use Rattle.std.proofs.Common.{◌≡◌, ◌++◌, map, drop}
use Rattle.std.specs.Option.{option_map}
use Rattle.gb_prog.specs.Writes.{TypedVariable}
use Rattle.std.proofs.Common.{List}
use Rattle.gb_call.specs.Written.{global_seen, with_types}
use Rattle.gb_call.proofs.written.with_types.Given as goal

abbrev pub invariant-loop-variable : goal.invariant-loop-variable
invariant-loop-variable l = option_map (λ (W : List TypedVariable). map global_seen l.typed ++ W) (with_types l.scope (drop l.variable-index l.list)) ≡ with_types l.scope l.list
