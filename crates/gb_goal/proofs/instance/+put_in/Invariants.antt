use Rattle.std.proofs.Common.{◌≡◌, ◌++◌, map, drop}
use Rattle.gb_goal.specs.Instances.{put_in, stands_for}
use Rattle.gb_goal.proofs.instance.+put_in.Given as goal

abbrev pub invariant-put_in_all-loop-e : goal.invariant-put_in_all-loop-e
invariant-put_in_all-loop-e l = l.out ++ map (put_in (stands_for l.params l.args)) (drop l.e-index l.list) ≡ map (put_in (stands_for l.params l.args)) l.list
