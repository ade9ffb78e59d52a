use Rattle.std.proofs.Common.{rules, ◌≡◌, ◌+◌, ◌-◌, true, false, length, sym, ◌∙◌, arith}
use Rattle.gb_print_names.specs.BoundNames.{is_among}
use Rattle.gb_print_names.proofs.Primes.{primed_free, primed_more}
use Rattle.gb_loops.proofs.variants.unlike.Goals as goal

pub returns-then-not-is_among : goal.returns-then-not-is_among
returns-then-not-is_among c =
    let f : is_among c.args.taken.now c.loop-tried.name ≡ false = search (rules, c.is_among.ensures, c.if-not-is_among.true) in
    sym (primed_free (length c.args.taken.now - c.loop-tried._tried) (is_among c.args.taken.now) c.loop-tried.name (omega (arith, c.loop-tried-test.true)) f)
    ∙ c.loop-tried.invariant

pub loop-tried-preserved : goal.loop-tried-preserved
loop-tried-preserved c =
    let f : is_among c.args.taken.now c.loop-tried.name ≡ true = search (rules, c.is_among.ensures, c.if-not-is_among.false) in
    let e = primed_more (length c.args.taken.now - c.loop-tried._tried) (length c.args.taken.now - (c.loop-tried._tried + 1)) (is_among c.args.taken.now) c.loop-tried.name (omega (arith, c.loop-tried-test.true)) f in
    search (rules, e, c.loop-tried.invariant)
