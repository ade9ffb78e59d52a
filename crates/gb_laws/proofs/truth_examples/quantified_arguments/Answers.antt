use Rattle.gb_laws.proofs.Quantified.{negation, equation, conditional}
use Rattle.gb_laws.proofs.truth_examples.quantified_arguments.Goals as goal

pub returns : goal.returns
returns c = record { negation = negation; equation = equation; conditional = conditional }
