use Rattle.std.proofs.Common.{◌≡◌, ◌++◌, drop}
use Rattle.gb_elab_mod.specs.Uses.{other_binders}
use Rattle.gb_elab_mod.proofs.uses.other_binders.Given as goal

abbrev pub invariant-loop-binder : goal.invariant-loop-binder
invariant-loop-binder l = l.all ++ other_binders (drop l.binder-index l.binders) ≡ other_binders l.binders
