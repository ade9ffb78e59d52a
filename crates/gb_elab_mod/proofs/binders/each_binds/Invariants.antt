use Rattle.std.proofs.Common.{◌≡◌, ◌++◌, drop}
use Rattle.gb_elab_mod.specs.Lemmas.{each_binds}
use Rattle.gb_elab_mod.proofs.binders.each_binds.Given as goal

abbrev pub invariant-loop-binder : goal.invariant-loop-binder
invariant-loop-binder l = l.all ++ each_binds (drop l.binder-index l.list) ≡ each_binds l.list
