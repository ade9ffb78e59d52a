use Rattle.std.proofs.Common.{◌≡◌, map, take}
use Rattle.gb_rewrite.specs.Unfolded.{unfolded}
use Rattle.gb_rewrite.proofs.unfolded.+unfolded.Given as goal

abbrev pub invariant-all_unfolded-loop-t : goal.invariant-all_unfolded-loop-t
invariant-all_unfolded-loop-t l = l.made ≡ map (unfolded l.name l.body) (take l.t-index l.list)
