use Rattle.std.proofs.Common.{rules, ◌≡◌, ◌+◌, ◌-◌, true, false, sym, ◌∙◌, arith}
use Rattle.gb_print_names.specs.BoundNames.{is_taken, place}
use Rattle.gb_print_names.proofs.Primes.{primed_free, primed_more}
use Rattle.gb_print_names.proofs.bound_names.primed.Goals as goal

pub returns-then-not-is_taken : goal.returns-then-not-is_taken
returns-then-not-is_taken c = λ bound.
    let f : is_taken (place c.args.at.now bound) c.loop-tried.name ≡ false = search (rules, c.is_taken.ensures bound, c.if-not-is_taken.true) in
    sym (primed_free (c.args.most - c.loop-tried._tried) (is_taken (place c.args.at.now bound)) c.loop-tried.name (omega (arith, c.loop-tried-test.true)) f)
    ∙ c.loop-tried.invariant bound

pub loop-tried-preserved : goal.loop-tried-preserved
loop-tried-preserved c = λ bound.
    let f : is_taken (place c.args.at.now bound) c.loop-tried.name ≡ true = search (rules, c.is_taken.ensures bound, c.if-not-is_taken.false) in
    let e = primed_more (c.args.most - c.loop-tried._tried) (c.args.most - (c.loop-tried._tried + 1)) (is_taken (place c.args.at.now bound)) c.loop-tried.name (omega (arith, c.loop-tried-test.true)) f in
    search (rules, e, c.loop-tried.invariant bound)
