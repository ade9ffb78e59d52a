use Rattle.std.proofs.Common.{None, ap, sym, ◌∙◌}
use Rattle.std.specs.Option.{option_copied}
use Rattle.gb_goal.specs.Answers.Answer.{given}
use Rattle.gb_names.specs.Environment.{environment}
use Rattle.gb_names.specs.Names.{named, operator_at}
use Rattle.gb_names.proofs.Answers.{answers_as}
use Rattle.gb_operators.specs.Constants.{literal}
use Rattle.gb_elab.specs.Forms.{declared}
use Rattle.gb_elab.proofs.form.declared.Goals as goal

pub returns-in-Some : goal.returns-in-Some
returns-in-Some c =
    let at = environment c.args.at.now in
    let bound = c.args.bound.now in
    let x = c.args.name.now in
    let w = option_copied c.args.want in
    answers_as _ _ c.wanted.result
    (ap (λ k. declared k (operator_at at bound x) x c.args.place at bound w) (sym c.constant_at.ensures ∙ ap option_copied c.in-Some.is))
    (c.wanted.ensures (given (literal c.in-Some.constant.now)) c.literal.ensures)

pub returns-in-None : goal.returns-in-None
returns-in-None c =
    let at = environment c.args.at.now in
    let bound = c.args.bound.now in
    let x = c.args.name.now in
    let w = option_copied c.args.want in
    answers_as _ _ c.wanted-in-None.result
    (ap (λ k. declared k (operator_at at bound x) x c.args.place at bound w) (sym c.constant_at.ensures ∙ ap option_copied c.in_default.is)
    ∙ ap (λ o. declared None o x c.args.place at bound w) (sym c.in_ok-operator.ensures ∙ c.in-None.is))
    (c.wanted-in-None.ensures (named at bound x c.args.place) c.named.ensures)
