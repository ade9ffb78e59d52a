use Rattle.std.proofs.Common.{◌≡◌, ℕ, ◌<◌, false}
use Rattle.gb_limits.specs.LeftOut.{left_out_at}
use Rattle.gb_limits.proofs.left_out.first_left_out.Given as goal

abbrev pub invariant-loop-at : goal.invariant-loop-at
invariant-loop-at l = (j : ℕ) → j < l.at → left_out_at l.text j ≡ false
