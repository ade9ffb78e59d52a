use Rattle.std.proofs.Common.{ℕ, ◌<◌, ◌^◌}
use Rattle.gb_limits.specs.Numbers.{number_of, digits_at}
use Rattle.gb_limits.proofs.numbers.first_overflow.Given as goal

abbrev pub invariant-loop-at : goal.invariant-loop-at
invariant-loop-at l = (j : ℕ) → j < l.at → number_of (digits_at l.text j) < 2 ^ 127
