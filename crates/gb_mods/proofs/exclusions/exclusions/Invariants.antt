use Rattle.std.proofs.Common.{◌≡◌, ◌++◌, drop}
use Rattle.gb_mods.specs.Exclusions.{exclusions_among}
use Rattle.gb_mods.proofs.exclusions.exclusions.Given as goal

abbrev pub invariant-loop-i : goal.invariant-loop-i
invariant-loop-i l = l.all ++ exclusions_among l.scope (drop l.i l.scope) ≡ exclusions_among l.scope l.scope
