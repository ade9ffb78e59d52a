use Rattle.std.proofs.Common.{◌≡◌, drop}
use Rattle.gb_elab_mod.specs.Uses.{other_arguments, said_of_all}
use Rattle.gb_elab_mod.proofs.uses.said_of_others.Given as goal

abbrev pub invariant-loop-argument : goal.invariant-loop-argument
invariant-loop-argument l =
    said_of_all l.scope l.goal l.said (other_arguments l.left (drop l.argument-index l.arguments))
    ≡ said_of_all l.scope l.goal l.fn.form (other_arguments l.binders l.arguments)
