use Rattle.std.proofs.Common.{◌≡◌, ◌++◌, take}
use Rattle.gb_forms.proofs.ordered.with_variables.Given as goal

abbrev pub invariant-loop-variable : goal.invariant-loop-variable
invariant-loop-variable l = l.all ≡ l.fn.found ++ take l.variable-index l.list
