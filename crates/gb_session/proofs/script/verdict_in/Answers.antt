-- The verdict is that of the end to which the script comes.
use Rattle.gb_session.proofs.Whole.{verdicts_due}
use Rattle.gb_session.proofs.script.verdict_in.Goals as goal

pub returns : goal.returns
returns c =
    verdicts_due c.args.text.now c.run-end.new.session.present.session c.run-end.result c.verdict.result c.run-end.ensures.end c.run-end.ensures.refused c.verdict.ensures
