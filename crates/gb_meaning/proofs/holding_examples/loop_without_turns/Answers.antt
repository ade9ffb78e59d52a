use Rattle.gb_meaning.proofs.Idling as idling
use Rattle.gb_meaning.proofs.holding_examples.loop_without_turns.Goals as goal

pub returns : goal.returns
returns c = idling.sound
