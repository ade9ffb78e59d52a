use Rattle.std.proofs.Common.{◌≡◌, ◌++◌, drop}
use Rattle.gb_mods.specs.Footprint.{references}
use Rattle.gb_mods.proofs.footprint.references.Given as goal

abbrev pub invariant-loop-procedure : goal.invariant-loop-procedure
invariant-loop-procedure l = l.all ++ references l.module (drop l.procedure-index l.list) ≡ references l.module l.list
