use Rattle.gb_meaning.proofs.Curious.{within_two, not_within_one}
use Rattle.gb_meaning.proofs.holding_examples.program_within_bound.Goals as goal

pub returns : goal.returns
returns c = record { two = λ i. within_two i; not_one = λ i. not_within_one i }
