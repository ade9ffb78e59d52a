use Rattle.std.proofs.Common.{◌≡◌, ℕ, ◌-◌, ◌<◌, ◌≤◌}
use Rattle.gb_limits.specs.declared.limits.TheConstants.{LEVELS}
use Rattle.gb_limits.specs.Limits.{brackets_behind, depth_at}
use Rattle.gb_limits.proofs.limits.first_in_brackets.Given as goal

abbrev pub invariant-loop-at : goal.invariant-loop-at
invariant-loop-at l = record {
  depth_is : l.depth ≡ brackets_behind l.text l._steps l.fault (l.at - l.fault);
  few : l.depth ≤ LEVELS;
  before : (j : ℕ) → j < l.at → depth_at l.text l._steps l.fault j ≤ LEVELS;
}
