use Rattle.std.proofs.Common.{ap, sym, ◌∙◌}
use Rattle.std.specs.Option.{option_copied, option_map_or}
use Rattle.gb_names.specs.Environment.{environment}
use Rattle.gb_names.specs.Names.{constant_at, operator_at}
use Rattle.gb_names.proofs.Answers.{answers_as}
use Rattle.gb_operators.specs.Constants.{constant}
use Rattle.gb_elab.specs.Forms.{declared}
use Rattle.gb_elab.proofs.form.simple.Goals as goal

pub returns-in-None : goal.returns-in-None
returns-in-None c =
    let at = environment c.args.at.now in
    let bound = c.args.bound.now in
    let x = c.args.name.now in
    let w = option_copied c.args.want in
    answers_as _ _ c.declared.result
    (ap (λ o. option_map_or (λ k. constant k w c.args.place) o (declared (constant_at at bound x) (operator_at at bound x) x c.args.place at bound w)) (sym c.known_at.ensures ∙ c.in-None.is))
    c.declared.ensures
