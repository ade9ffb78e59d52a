-- The tokens are those of the text.
use Rattle.std.proofs.Common.{subst, sym, ap, ◌∙◌}
use Rattle.std.specs.Prelude.{Err}
use Rattle.std.proofs.lemmas.Result.{err_from_is_err_and}
use Rattle.gb_script.specs.declared.tree.Node.{Node}
use Rattle.gb_theory.specs.Outcome.{IsReadAs}
use Rattle.gb_theory.specs.Sessions.{Meets}
use Rattle.gb_theory.proofs.Read.{character_due, read_due}
use Rattle.gb_theory.proofs.verdict.read_command.Goals as goal

pub returns-in_err-tokens : goal.returns-in_err-tokens
returns-in_err-tokens c =
    let given = err_from_is_err_and c.from_residual.result c.from_residual.ensures.1 in
    subst (Meets (λ (x : Node). x) (IsReadAs c.args.text.now c.args.at)) (sym (given.1 ∙ ap Err given.2))
    (character_due c.args.text.now c.args.at c.in_err-tokens.field-0.0 c.in_err-tokens.ensures.character)

pub returns : goal.returns
returns c =
    read_due c.args.text.now c.args.at c.in_ok-tokens.tokens c.command.result c.in_ok-tokens.ensures.tokens c.in_ok-tokens.ensures.faultless
    c.command.ensures.found c.command.ensures.allowed c.command.ensures.no_fault c.command.ensures.refused
