use Rattle.std.proofs.Common.{◌≡◌, ◌++◌, drop}
use Rattle.gb_mods.specs.Touched.{each_variables}
use Rattle.gb_mods.proofs.touched.+variables.Given as goal

abbrev pub invariant-each_variables-loop-term : goal.invariant-each_variables-loop-term
invariant-each_variables-loop-term l = l.all ++ each_variables (drop l.term-index l.list) ≡ l.fn.found ++ each_variables l.list
