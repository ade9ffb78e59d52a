use Rattle.std.proofs.Common.{ap}
use Rattle.std.specs.Option.{option_copied}
use Rattle.gb_names.specs.Environment.{environment}
use Rattle.gb_names.proofs.Answers.{answers_as}
use Rattle.gb_names.proofs.Parts.{two}
use Rattle.gb_elab.specs.Forms.{with_side}
use Rattle.gb_elab.proofs.form.with_side.Goals as goal

pub returns-in-len2 : goal.returns-in-len2
returns-in-len2 c =
    let e = two c.args.parts.now c.operand-item.result c.side-item.result c.in-len2.len_at_least c.in-len2.len_below c.operand-item.is c.side-item.is in
    answers_as _ _ c.wanted.result (ap (λ ts. with_side ts c.args.place (environment c.args.at.now) c.args.bound.now (option_copied c.args.want)) e) (c.wanted.ensures _ c.read.ensures)
