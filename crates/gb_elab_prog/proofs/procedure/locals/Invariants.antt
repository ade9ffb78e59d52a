use Rattle.std.proofs.Common.{◌≡◌, [], drop}
use Rattle.gb_elab_prog.specs.Procedures.{locals}
use Rattle.gb_elab_prog.proofs.procedure.locals.Given as goal

abbrev pub invariant-loop-line : goal.invariant-loop-line
invariant-loop-line l = locals l.scope l.params l.locals (drop l.line-index l.lines) ≡ locals l.scope l.params [] l.lines
