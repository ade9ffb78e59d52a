use Rattle.std.proofs.Common.{◌≡◌, map, take}
use Rattle.gb_inline.specs.Renamed.{var_renamed}
use Rattle.gb_inline.proofs.renamed.vars_renamed.Given as goal

abbrev pub invariant-loop-variable : goal.invariant-loop-variable
invariant-loop-variable l = l.all ≡ map (var_renamed l.names) (take l.variable-index l.list)
