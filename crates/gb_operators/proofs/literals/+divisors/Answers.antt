use Rattle.std.proofs.Common.{ap, sym, ◌∙◌}
use Rattle.gb_script.specs.Tree.{head_of}
use Rattle.gb_operators.specs.Literals.{dividing, divisor_in, with_divisors}
use Rattle.gb_operators.proofs.Spelled.{divided_is, divisor_few, divisor_in_is, divisor_one, fraction_is, inner_few, inner_one, no_divisor}
use Rattle.gb_operators.proofs.literals.+divisors.Goals as goal

pub divisor_in-returns : goal.divisor_in-returns
divisor_in-returns t c =
    c.dividing.ensures
    ∙ ap (λ ps. dividing (head_of c.args.t.now) (with_divisors ps)) c.as_slice.ensures
    ∙ sym (divisor_in_is c.args.t.now)

pub dividing-returns-in_default : goal.dividing-returns-in_default
dividing-returns-in_default t c = sym (no_divisor c.args.head (with_divisors c.args.parts.now) c.in_default.not-ToReal c.in_default.not-Bracketed)

pub dividing-returns-in-len1 : goal.dividing-returns-in-len1
dividing-returns-in-len1 t c =
    let ts = c.args.parts.now in
    c.number_in.ensures
    ∙ sym (fraction_is c.args.head (with_divisors ts) c.in-ToReal.is ∙ divisor_one ts c.numeral-item.result c.in-len1.len_at_least c.in-len1.len_below c.numeral-item.is)

pub dividing-returns-in_default-parts : goal.dividing-returns-in_default-parts
dividing-returns-in_default-parts t c =
    let ts = c.args.parts.now in
    sym (fraction_is c.args.head (with_divisors ts) c.in-ToReal.is ∙ divisor_few ts c.in_default-parts.len_below)

pub dividing-returns-in-len1-parts : goal.dividing-returns-in-len1-parts
dividing-returns-in-len1-parts t c =
    let ts = c.args.parts.now in
    c.divisor_in.ensures
    ∙ sym (divided_is c.args.head (with_divisors ts) c.in-Bracketed.is
    ∙ inner_one divisor_in ts c.inner-item.result c.in-len1-parts.len_at_least c.in-len1-parts.len_below c.inner-item.is)

pub dividing-returns-in_default-parts-2 : goal.dividing-returns-in_default-parts-2
dividing-returns-in_default-parts-2 t c =
    let ts = c.args.parts.now in
    sym (divided_is c.args.head (with_divisors ts) c.in-Bracketed.is ∙ inner_few divisor_in ts c.in_default-parts-2.len_below)
