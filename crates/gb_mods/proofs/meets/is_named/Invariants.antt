use Rattle.std.proofs.Common.{◌≡◌, drop}
use Rattle.gb_mods.specs.Meets.{is_named}
use Rattle.gb_mods.proofs.meets.is_named.Given as goal

abbrev pub invariant-loop-o : goal.invariant-loop-o
invariant-loop-o l = is_named (drop l.o-index l.oracles) l.parameter l.name ≡ is_named l.oracles l.parameter l.name
