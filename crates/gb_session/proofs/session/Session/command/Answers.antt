-- A text that isn't read is refused, and one that is read is run.
use Rattle.std.proofs.Common.{subst, sym, ap, ◌∙◌}
use Rattle.std.specs.Prelude.{Err}
use Rattle.std.proofs.lemmas.Result.{err_from_is_err_and}
use Rattle.gb_theory.specs.Sessions.{Meets}
use Rattle.gb_session.specs.Commands.{CommandLeads, TextLeads}
use Rattle.gb_session.proofs.Read.{unread, read_refused}
use Rattle.gb_session.proofs.session.Session.command.Goals as goal
use Rattle.gb_goal.specs.Answers.Answer.{given}

pub returns-in_err-command-clause-session : goal.returns-in_err-command-clause-session
returns-in_err-command-clause-session c =
    let given = err_from_is_err_and c.from_residual.result c.from_residual.ensures.1 in
    subst (Meets _ (TextLeads c.args.self.now c.args.text.now c.args.at)) (sym (given.1 ∙ ap Err given.2))
    (unread (CommandLeads c.args.self.now) c.args.text.now c.args.at c.in_err-command.field-0.0 c.in_err-command.ensures)

pub returns-in_err-run-clause-session : goal.returns-in_err-run-clause-session
returns-in_err-run-clause-session c =
    let given = err_from_is_err_and c.from_residual-in_err-run.result c.from_residual-in_err-run.ensures.1 in
    subst (Meets _ (TextLeads c.args.self.now c.args.text.now c.args.at)) (sym (given.1 ∙ ap Err given.2))
    (read_refused (CommandLeads c.args.self.now) c.args.text.now c.args.at c.in_ok-command.command c.in_err-run.field-0.0 c.in_ok-command.ensures c.in_err-run.ensures.session)

pub returns-clause-session : goal.returns-clause-session
returns-clause-session c = (given c.in_ok-command.command, c.in_ok-command.ensures, c.in_ok-run.ensures.session)
