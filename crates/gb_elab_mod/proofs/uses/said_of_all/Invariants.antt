use Rattle.std.proofs.Common.{◌≡◌, drop}
use Rattle.gb_elab_mod.specs.Uses.{said_of_all}
use Rattle.gb_elab_mod.proofs.uses.said_of_all.Given as goal

abbrev pub invariant-loop-argument : goal.invariant-loop-argument
invariant-loop-argument l =
    said_of_all l.scope l.goal l.said (drop l.argument-index l.arguments) ≡ said_of_all l.scope l.goal l.fn.form l.arguments
