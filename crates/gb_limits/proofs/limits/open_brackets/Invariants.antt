use Rattle.std.proofs.Common.{◌≡◌, ◌+◌, ◌≤◌, length, count_by}
use Rattle.gb_limits.specs.Level.{is_bracket}
use Rattle.gb_limits.proofs.limits.open_brackets.Given as goal

abbrev pub invariant-loop-level : goal.invariant-loop-level
invariant-loop-level l = record {
  counted : l.count + count_by is_bracket l.levels ≡ count_by is_bracket l.fn.levels;
  few : l.count + length l.levels ≤ l.total;
}

abbrev pub decreases-loop-level : goal.decreases-loop-level
decreases-loop-level l = length l.levels
