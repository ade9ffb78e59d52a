use Rattle.gb_amb.proofs.Sound.{some_answer, one_answer}
use Rattle.gb_amb.proofs.laws.answers.Goals as goal

pub returns : goal.returns
returns x = record { some = some_answer; one = one_answer }
