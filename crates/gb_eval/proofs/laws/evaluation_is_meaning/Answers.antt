use Rattle.gb_eval.proofs.Sound.{answer_sound, truth_sound}
use Rattle.gb_eval.proofs.laws.evaluation_is_meaning.Goals as goal

pub returns : goal.returns
returns c = record { answer = answer_sound; truth = truth_sound }
