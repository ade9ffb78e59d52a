use Rattle.std.proofs.Common.{◌≡◌, ◌++◌, drop}
use Rattle.gb_mods.specs.Footprint.{touched}
use Rattle.gb_mods.proofs.footprint.touched.Given as goal

abbrev pub invariant-loop-x : goal.invariant-loop-x
invariant-loop-x l = l.all ++ touched l.scope (drop l.x-index l.list) ≡ l.fn.found ++ touched l.scope l.list
