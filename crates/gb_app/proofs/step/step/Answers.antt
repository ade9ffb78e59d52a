-- Where no session can be made nothing is written.
use Rattle.std.proofs.Common.{[]}
use Rattle.gb_app.proofs.Lines.{some_screens}
use Rattle.gb_app.proofs.Ends.{Consumes-none, fault_opening}
use Rattle.gb_app.proofs.step.step.Goals as goal

pub returns-in-Err-clause-session : goal.returns-in-Err-clause-session
returns-in-Err-clause-session g c = (
  [],
  Consumes-none (g.I.Source.left c.args.input.now),
  fault_opening (some_screens c.each_line_has_an_answer.ensures) (g.I.Source.left c.args.input.now) (g.K.Sink.written c.args.out.now),
)
