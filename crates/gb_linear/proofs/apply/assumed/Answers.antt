use Rattle.std.proofs.Common.{false, true, sym, ◌∙◌}
use Rattle.gb_linear.proofs.Steps.{no_hypothesis, no_comparison, when_usable}
use Rattle.gb_linear.proofs.apply.assumed.Goals as goal

pub returns-in_default : goal.returns-in_default
returns-in_default c = no_hypothesis c.args.equal c.args.hyps.now c.args.multiple c.in_default.ensures

pub returns-in_default-2 : goal.returns-in_default-2
returns-in_default-2 c =
    no_comparison c.args.equal c.args.hyps.now c.args.multiple c.in-Some.hyp.now c.in-Some.ensures (sym c.in_default-2.is ∙ c.in_ok-says.ensures)

pub returns-then-not-is_usable : goal.returns-then-not-is_usable
returns-then-not-is_usable c =
    when_usable c.args.equal c.args.hyps.now c.args.multiple c.in-Some.hyp.now c.in-Some-2.says false c.in-Some.ensures (sym c.in-Some-2.is ∙ c.in_ok-says.ensures)
    (sym c.if-not-is_usable.true ∙ c.is_usable.ensures)

pub returns : goal.returns
returns c =
    when_usable c.args.equal c.args.hyps.now c.args.multiple c.in-Some.hyp.now c.in-Some-2.says true c.in-Some.ensures (sym c.in-Some-2.is ∙ c.in_ok-says.ensures)
    (sym c.if-not-is_usable.false ∙ c.is_usable.ensures)
