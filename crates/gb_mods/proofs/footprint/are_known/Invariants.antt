use Rattle.std.proofs.Common.{◌≡◌, drop}
use Rattle.gb_mods.specs.Footprint.{are_known}
use Rattle.gb_mods.proofs.footprint.are_known.Given as goal

abbrev pub invariant-loop-x : goal.invariant-loop-x
invariant-loop-x l = are_known l.scope (drop l.x-index l.list) ≡ are_known l.scope l.list
