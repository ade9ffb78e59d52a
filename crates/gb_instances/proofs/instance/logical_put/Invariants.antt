use Rattle.std.proofs.Common.{◌≡◌, map, take}
use Rattle.gb_instances.specs.Instance.{logical_put}
use Rattle.gb_instances.proofs.instance.logical_put.Given as goal

abbrev pub invariant-loop-x : goal.invariant-loop-x
invariant-loop-x l = l.all ≡ map (logical_put l.params l.modules) (take l.x-index l.list)
