use Rattle.std.proofs.Common.{◌≡◌, drop}
use Rattle.gb_mods.specs.Meets.{all_named}
use Rattle.gb_mods.proofs.meets.all_named.Given as goal

abbrev pub invariant-loop-x : goal.invariant-loop-x
invariant-loop-x l = all_named l.params l.oracles (drop l.x-index l.list) l.place ≡ all_named l.params l.oracles l.list l.place
