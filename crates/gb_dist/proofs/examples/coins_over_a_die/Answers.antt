use Rattle.std.proofs.Common.{arith}
use native.Mathlib.Decide.{ℕ_discrete}
use Rattle.gb_dist.specs.Examples.{coin, four_sided_die}
use Rattle.gb_dist.proofs.examples.coins_over_a_die.Goals as goal

pub returns : goal.returns
returns c = c.gluing.ensures ℕ_discrete coin 2 four_sided_die 4 coin 2 (omega arith) c.coin_and_parity.ensures
    (c.symmetry.ensures coin 2 four_sided_die 4 c.coin_and_parity.ensures)
