use Rattle.gb_amb.proofs.UseIsSound.{some_answer, one_answer}
use Rattle.gb_amb.proofs.using_laws.answers_of_uses.Goals as goal

pub returns : goal.returns
returns x = record { some = some_answer; one = one_answer }
