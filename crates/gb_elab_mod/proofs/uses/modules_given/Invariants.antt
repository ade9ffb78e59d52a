use Rattle.std.proofs.Common.{◌≡◌, drop, map}
use Rattle.gb_elab_stmt.proofs.Gathered.{behind}
use Rattle.gb_instances.specs.Instance.{given_seen}
use Rattle.gb_elab_mod.specs.Uses.{modules_given}
use Rattle.gb_elab_mod.proofs.uses.modules_given.Given as goal

abbrev pub invariant-loop-argument : goal.invariant-loop-argument
invariant-loop-argument l =
    behind (map given_seen l.all) (modules_given l.scope l.goal l.left l.said (drop l.argument-index l.arguments))
    ≡ modules_given l.scope l.goal l.binders l.fn.form l.arguments
