use Rattle.std.proofs.Common.{◌≡◌, [], drop}
use Rattle.gb_full.specs.Loss.{with_operators}
use Rattle.gb_full.proofs.loss.full_operators.Given as goal

abbrev pub invariant-loop-i : goal.invariant-loop-i
invariant-loop-i l = with_operators l.scope l.full (drop l.i l.scope) ≡ with_operators l.scope [] l.scope
