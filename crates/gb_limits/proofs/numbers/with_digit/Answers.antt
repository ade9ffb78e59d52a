use Rattle.std.proofs.Common.{arith}
use Rattle.std.proofs.lemmas.Int.{ints}
use Rattle.gb_limits.proofs.numbers.with_digit.Goals as goal

pub returns-in-Some-checked_add : goal.returns-in-Some-checked_add
returns-in-Some-checked_add c = (omega (arith, ints, c.in-Some-checked_add.ensures, c.in-Some.ensures), omega (arith, ints, c.in-Some-checked_add.ensures, c.in-Some.ensures))
