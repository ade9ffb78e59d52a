use Rattle.gb_meaning.proofs.EachProgram.{nothing_said_holds}
use Rattle.gb_meaning.proofs.holding_examples.lemma_of_each_program.Goals as goal

pub returns : goal.returns
returns c = nothing_said_holds
