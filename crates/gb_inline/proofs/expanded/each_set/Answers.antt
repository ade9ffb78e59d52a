use Rattle.std.proofs.Common.{rules, arith}
use Rattle.gb_inline.proofs.ExpandedSteps.{all_set}
use Rattle.gb_inline.proofs.expanded.each_set.Goals as goal

pub returns : goal.returns
returns c =
    let e = all_set c.args.names.now c.args.values.now c.loop-i.i (λ a b. omega (arith, a, b, c.min-i-end.ensures, c.loop-i-test.false)) in
    search (rules, e, c.loop-i.invariant)
