use Rattle.std.proofs.Common.{◌≡◌, ℕ, ◌+◌, ◌<◌, ◌≤◌, length}
use Rattle.gb_limits.specs.declared.limits.TheConstants.{LEVELS}
use Rattle.gb_limits.specs.Limits.{walked, depth_at}
use Rattle.gb_limits.proofs.limits.first_too_deep.Given as goal

abbrev pub invariant-loop-at : goal.invariant-loop-at
invariant-loop-at l = record {
  levels_are : l.levels ≡ (walked l.text l.steps l.at).levels;
  rest_is : l.rest ≡ (walked l.text l.steps l.at).rest;
  few : length l.levels ≤ LEVELS + 1;
  before : (j : ℕ) → j < l.at → depth_at l.text l.steps l.fault j ≤ LEVELS;
}
