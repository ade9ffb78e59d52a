use Rattle.std.proofs.Common.{◌≡◌, ◌++◌, drop}
use Rattle.gb_mods.specs.Exclusions.{kept_out}
use Rattle.gb_mods.proofs.exclusions.kept_out.Given as goal

abbrev pub invariant-loop-module : goal.invariant-loop-module
invariant-loop-module l = l.all ++ kept_out l.scope (drop l.module-index l.list) ≡ kept_out l.scope l.list
