use Rattle.std.proofs.Common.{FitsSigned, if◌then◌else◌, ap, sym, ◌∙◌, rules}
use Rattle.std.specs.Int.{w128}
use Rattle.std.proofs.lemmas.Int.{to_z-of_z}
use Rattle.gb_dist.specs.Fractions.{plus, minus, times, over, reduced}
use Rattle.gb_dist.specs.Operations.{plus_steps, minus_steps, times_steps, over_steps}
use Rattle.gb_eval.specs.Findings.{after, shown}
use Rattle.gb_eval.specs.Findings.Finding.{fraction}
use Rattle.gb_eval.specs.Findings.Comes.{unknown}
use Rattle.gb_eval.specs.Operators.{fraction_at}
use Rattle.gb_eval.proofs.Stops.{gives_as}
use Rattle.gb_eval.proofs.numbers.fraction_at.Goals as goal
use mir.Val.{of_z, to_z}

pub returns-in-Plus : goal.returns-in-Plus
returns-in-Plus c =
    gives_as shown _ _ c.of_fraction.result (ap (λ o. fraction_at o c.args.a c.args.b) c.in-Plus.is)
    (c.of_fraction.ensures (plus_steps c.args.a c.args.b) (reduced (plus c.args.a c.args.b)) c.add.ensures.exact)

pub returns-in-Minus : goal.returns-in-Minus
returns-in-Minus c =
    gives_as shown _ _ c.of_fraction-in-Minus.result (ap (λ o. fraction_at o c.args.a c.args.b) c.in-Minus.is)
    (c.of_fraction-in-Minus.ensures (minus_steps c.args.a c.args.b) (reduced (minus c.args.a c.args.b)) c.sub.ensures.exact)

pub returns-in-Times : goal.returns-in-Times
returns-in-Times c =
    gives_as shown _ _ c.of_fraction-in-Times.result (ap (λ o. fraction_at o c.args.a c.args.b) c.in-Times.is)
    (c.of_fraction-in-Times.ensures (times_steps c.args.a c.args.b) (reduced (times c.args.a c.args.b)) c.mul.ensures.exact)

pub returns-in-Divide : goal.returns-in-Divide
returns-in-Divide c =
    let fits : FitsSigned w128 c.num.result = search rules in
    let e = to_z-of_z w128 c.num.result fits in
    let n = to_z w128 (of_z w128 c.num.result) in
    gives_as shown _ _ c.of_fraction-in-Divide.result
    (ap (λ o. fraction_at o c.args.a c.args.b) c.in-Divide.is
    ∙ ap (λ x. if x then after (over_steps c.args.a c.args.b.0) (fraction (reduced (over c.args.a c.args.b.0))) else unknown) (sym c.is_divisor.ensures ∙ c.if-is_divisor.true)
    ∙ ap (λ n. after (over_steps c.args.a n) (fraction (reduced (over c.args.a n)))) (sym c.num.ensures.value ∙ sym e))
    (c.of_fraction-in-Divide.ensures (over_steps c.args.a n) (reduced (over c.args.a n)) c.div_lit.ensures.exact)
