use Rattle.gb_session.proofs.Exists.{entry}
use Rattle.gb_session.proofs.laws.each_line_has_an_answer.Goals as goal

pub returns : goal.returns
returns c = entry c.commands_have_answers.ensures.runs c.commands_have_answers.ensures.read
