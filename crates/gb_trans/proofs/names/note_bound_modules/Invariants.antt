use Rattle.std.proofs.Common.{◌≡◌, ◌++◌, drop}
use Rattle.gb_trans.specs.Beside.{bound_modules}
use Rattle.gb_trans.proofs.names.note_bound_modules.Given as goal

abbrev pub invariant-loop-i : goal.invariant-loop-i
invariant-loop-i l = l.names ++ bound_modules (drop l.i l.scope) ≡ l.initial.names ++ bound_modules l.scope
