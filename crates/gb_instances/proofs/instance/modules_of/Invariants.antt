use Rattle.std.proofs.Common.{◌≡◌, map, take}
use Rattle.gb_instances.specs.Instance.{given_seen, modules_of}
use Rattle.gb_instances.proofs.instance.modules_of.Given as goal

abbrev pub invariant-loop-given : goal.invariant-loop-given
invariant-loop-given l = l.all ≡ modules_of (map given_seen (take l.given-index l.list))
