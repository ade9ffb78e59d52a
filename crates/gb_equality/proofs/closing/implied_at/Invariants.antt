use Rattle.std.proofs.Common.{ℕ, ◌<◌}
use Rattle.gb_equality.specs.Table.{IsSettledPair}
use Rattle.gb_equality.proofs.closing.implied_at.Given as goal

abbrev pub invariant-loop-before : goal.invariant-loop-before
invariant-loop-before l = (j : ℕ) → j < l.before → IsSettledPair l.nodes l.labels j l.at
