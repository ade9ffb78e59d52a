use Rattle.std.proofs.Common.{◌≡◌, ◌++◌, drop}
use Rattle.gb_goal.specs.Binders.{binder_entries}
use Rattle.gb_goal.proofs.binders.binder_entries.Given as goal

abbrev pub invariant-loop-bind : goal.invariant-loop-bind
invariant-loop-bind l = l.made ++ binder_entries (drop l.bind-index l.binds) ≡ binder_entries l.binds
