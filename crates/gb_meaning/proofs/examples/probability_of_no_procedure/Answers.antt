use Rattle.gb_meaning.proofs.examples.probability_of_no_procedure.Goals as goal

pub returns : goal.returns
returns c = λ t w. w.0
