use Rattle.std.proofs.Common.{◌≡◌, Some, drop}
use Rattle.gb_mods.specs.Meant.{in_front}
use Rattle.gb_instances.specs.Instance.{touched_put}
use Rattle.gb_instances.proofs.instance.touched_put.Given as goal

abbrev pub invariant-loop-name : goal.invariant-loop-name
invariant-loop-name l =
    in_front (Some l.all) (touched_put l.scope l.params l.modules (drop l.name-index l.list))
    ≡ in_front (Some l.fn.found) (touched_put l.scope l.params l.modules l.list)
