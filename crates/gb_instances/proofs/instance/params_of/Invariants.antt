use Rattle.std.proofs.Common.{◌≡◌, take}
use Rattle.gb_instances.specs.Instance.{params_of}
use Rattle.gb_instances.proofs.instance.params_of.Given as goal

abbrev pub invariant-loop-bind : goal.invariant-loop-bind
invariant-loop-bind l = l.all ≡ params_of (take l.bind-index l.binds)
