use Rattle.std.proofs.Common.{◌≡◌, map, take}
use Rattle.gb_instances.specs.Put.{put}
use Rattle.gb_instances.proofs.put.+put.Given as goal

abbrev pub invariant-all_put-loop-t : goal.invariant-all_put-loop-t
invariant-all_put-loop-t l = l.out ≡ map (put l.scope l.params l.modules) (take l.t-index l.list)
