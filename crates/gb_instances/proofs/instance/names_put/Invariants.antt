use Rattle.std.proofs.Common.{◌≡◌, ◌++◌, drop}
use Rattle.gb_instances.specs.Instance.{names_put}
use Rattle.gb_instances.proofs.instance.names_put.Given as goal

abbrev pub invariant-loop-name : goal.invariant-loop-name
invariant-loop-name l = l.all ++ names_put l.params l.modules (drop l.name-index l.list) ≡ names_put l.params l.modules l.list
