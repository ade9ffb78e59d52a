use Rattle.std.proofs.Common.{◌≡◌, ◌++◌, drop}
use Rattle.gb_goal.specs.Instances.{calls_with, stands_for}
use Rattle.gb_goal.proofs.instance.+call_with.Given as goal

abbrev pub invariant-calls_with-loop-statement : goal.invariant-calls_with-loop-statement
invariant-calls_with-loop-statement l = l.out ++ calls_with (stands_for l.params l.args) (drop l.statement-index l.list) ≡ calls_with (stands_for l.params l.args) l.list
