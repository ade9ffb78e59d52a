use Rattle.std.proofs.Common.{◌≡◌, drop}
use Rattle.gb_goal.specs.Instances.{stands_for}
use Rattle.gb_goal.proofs.instance.stands_for.Given as goal

abbrev pub invariant-loop-p : goal.invariant-loop-p
invariant-loop-p l = stands_for (drop l.p-index l.params) l.others l.name ≡ stands_for l.params l.args l.name
