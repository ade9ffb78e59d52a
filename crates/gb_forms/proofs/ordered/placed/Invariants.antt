use Rattle.std.proofs.Common.{◌≡◌, ◌++◌, drop}
use Rattle.gb_forms.specs.Ordered.{placed}
use Rattle.gb_forms.proofs.ordered.placed.Given as goal

abbrev pub invariant-loop-i : goal.invariant-loop-i
invariant-loop-i l = l.before ++ placed l.variable (drop l.i l.list) ≡ placed l.variable l.list
