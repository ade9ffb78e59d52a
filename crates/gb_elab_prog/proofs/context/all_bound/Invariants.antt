use Rattle.std.proofs.Common.{◌≡◌, drop}
use Rattle.gb_goal.specs.Binders.{binder_entries}
use Rattle.gb_goal.specs.Scope.{AreNew}
use Rattle.gb_elab_prog.specs.Contexts.{all_bound, nothing_bound}
use Rattle.gb_elab_prog.proofs.context.all_bound.Given as goal

abbrev pub invariant-loop-x : goal.invariant-loop-x
invariant-loop-x l = record {
  answer : all_bound l.scope l.bound (drop l.x-index l.binders) ≡ all_bound l.scope nothing_bound l.binders;
  new : AreNew l.scope (binder_entries l.bound.modules);
}
