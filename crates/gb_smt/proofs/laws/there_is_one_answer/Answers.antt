use Rattle.gb_smt.proofs.Answered.{one_answer}
use Rattle.gb_smt.proofs.laws.there_is_one_answer.Goals as goal

pub returns : goal.returns
returns c = one_answer
