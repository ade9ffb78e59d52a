use Rattle.std.proofs.Common.{◌≡◌, ℕ, ◌<◌, false}
use Rattle.gb_limits.specs.Limits.{walked, is_too_many}
use Rattle.gb_limits.proofs.limits.first_long.Given as goal

abbrev pub invariant-loop-at : goal.invariant-loop-at
invariant-loop-at l = record {
  levels_are : l.levels ≡ (walked l.text l.steps l.at).levels;
  rest_is : l.rest ≡ (walked l.text l.steps l.at).rest;
  short : (j : ℕ) → j < l.at → is_too_many l.text l.steps j ≡ false;
}
