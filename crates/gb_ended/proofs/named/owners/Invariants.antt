use Rattle.std.proofs.Common.{◌≡◌, ◌++◌, drop}
use Rattle.gb_ended.specs.Named.{owners}
use Rattle.gb_ended.proofs.named.owners.Given as goal

abbrev pub invariant-loop-variable : goal.invariant-loop-variable
invariant-loop-variable l = l.all ++ owners (drop l.variable-index l.list) ≡ l.fn.found ++ owners l.list
