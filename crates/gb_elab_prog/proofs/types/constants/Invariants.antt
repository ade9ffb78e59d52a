use Rattle.std.proofs.Common.{◌≡◌, drop}
use Rattle.gb_elab_prog.specs.Types.{constants}
use Rattle.gb_elab_prog.proofs.types.constants.Given as goal

abbrev pub invariant-loop-i : goal.invariant-loop-i
invariant-loop-i l = constants l.scope l.ty l.i l.added (drop l.i l.words) ≡ constants l.scope l.ty 0 l.initial.added l.words
