use Rattle.std.proofs.Common.{◌≡◌, ◌||◌, length}
use Rattle.gb_limits.specs.Limits.{taken, begin_too_many}
use Rattle.gb_limits.proofs.limits.pass.Given as goal

abbrev pub invariant-loop-rest : goal.invariant-loop-rest
invariant-loop-rest l = record {
  same : taken l.text l.at l.levels l.rest ≡ taken l.text l.at l.initial.levels l.initial.rest;
  long : (l.long || begin_too_many l.text l.at l.levels l.rest) ≡ begin_too_many l.text l.at l.initial.levels l.initial.rest;
}

abbrev pub decreases-loop-rest : goal.decreases-loop-rest
decreases-loop-rest l = length l.rest
