use Rattle.std.proofs.Common.{◌≡◌, ◌++◌, drop}
use Rattle.gb_mods.specs.Touched.{each_touched}
use Rattle.gb_mods.proofs.touched.+touched.Given as goal

abbrev pub invariant-touched-loop-statement : goal.invariant-touched-loop-statement
invariant-touched-loop-statement l = l.all ++ each_touched (drop l.statement-index l.list) ≡ l.fn.found ++ each_touched l.list
