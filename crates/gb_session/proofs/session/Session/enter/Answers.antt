-- A text that isn't read is refused; a line takes commands off, or is run.
use Rattle.std.proofs.Common.{subst, sym, ap, ◌∙◌}
use Rattle.std.specs.Prelude.{Err}
use Rattle.std.proofs.lemmas.Result.{err_from_is_err_and}
use Rattle.gb_goal.specs.Answers.Answer.{given}
use Rattle.gb_script.specs.Tree.{head_of}
use Rattle.gb_theory.specs.Sessions.{Meets}
use Rattle.gb_session.specs.Commands.{LineLeads, EntryLeads, taken_by}
use Rattle.gb_session.proofs.Read.{unread, read_meets, takes_off, is_command}
use Rattle.gb_session.proofs.session.Session.enter.Goals as goal

pub returns-in_err-line-clause-session : goal.returns-in_err-line-clause-session
returns-in_err-line-clause-session c =
    let given = err_from_is_err_and c.from_residual.result c.from_residual.ensures.1 in
    subst (Meets _ (EntryLeads c.args.self.now c.args.text.now c.args.at)) (sym (given.1 ∙ ap Err given.2))
    (unread (LineLeads c.args.self.now) c.args.text.now c.args.at c.in_err-line.field-0.0 c.in_err-line.ensures)

pub returns-in-Some-clause-session : goal.returns-in-Some-clause-session
returns-in-Some-clause-session c = (
  given c.in_ok-line.line,
  c.in_ok-line.ensures,
  takes_off c.args.self.now c.undo.new.self c.in_ok-line.line c.in-Some.count (c.in-Some.ensures ∙ ap (taken_by (head_of c.in_ok-line.line)) c.as_slice.ensures) c.undo.ensures.session,
)

pub returns-clause-session : goal.returns-clause-session
returns-clause-session c =
    read_meets _ (LineLeads c.args.self.now) c.args.text.now c.args.at c.in_ok-line.line c.run.result c.in_ok-line.ensures
    (is_command _ c.args.self.now c.in_ok-line.line c.run.result (c.in-None.ensures ∙ ap (taken_by (head_of c.in_ok-line.line)) c.as_slice.ensures) c.run.ensures.session)
