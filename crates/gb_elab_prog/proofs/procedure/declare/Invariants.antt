use Rattle.std.proofs.Common.{◌≡◌, drop}
use Rattle.gb_elab_prog.specs.Procedures.{declared}
use Rattle.gb_elab_prog.proofs.procedure.declare.Given as goal

abbrev pub invariant-loop-x : goal.invariant-loop-x
invariant-loop-x l = declared l.params l.locals (drop l.x-index l.names) l.ty ≡ declared l.params l.initial.locals l.names l.ty
