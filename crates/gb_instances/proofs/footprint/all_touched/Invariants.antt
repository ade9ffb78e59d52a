use Rattle.std.proofs.Common.{◌≡◌, ◌++◌, drop}
use Rattle.gb_instances.specs.Footprint.{all_touched}
use Rattle.gb_instances.proofs.footprint.all_touched.Given as goal

abbrev pub invariant-loop-x : goal.invariant-loop-x
invariant-loop-x l = l.all ++ all_touched l.scope (drop l.x-index l.list) ≡ l.fn.found ++ all_touched l.scope l.list
