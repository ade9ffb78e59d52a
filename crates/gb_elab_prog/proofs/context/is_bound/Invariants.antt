use Rattle.std.proofs.Common.{◌≡◌, drop, is_some}
use Rattle.gb_goal.specs.Binders.{binder_entries}
use Rattle.gb_goal.specs.Scope.{entry_of}
use Rattle.gb_elab_prog.proofs.context.is_bound.Given as goal

abbrev pub invariant-loop-b : goal.invariant-loop-b
invariant-loop-b l = is_some (entry_of (binder_entries (drop l.b-index l.binds)) l.name) ≡ is_some (entry_of (binder_entries l.binds) l.name)
