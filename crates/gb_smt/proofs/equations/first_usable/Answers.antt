use Rattle.std.proofs.Common.{Some, sym, ap, ◌∙◌}
use Rattle.gb_smt.proofs.Uses.{usable_here}
use Rattle.gb_smt.proofs.equations.first_usable.Goals as goal

pub returns-in-Some : goal.returns-in-Some
returns-in-Some c =
    ap Some c.in_ok-new.ensures
    ∙ sym (usable_here c.args.hyps.now c.loop-place.place c.index-hyps-place.result c.in-Some.change c.loop-place-test.true c.index-hyps-place.is (sym c.in_ok-change.ensures ∙ c.in-Some.is))
    ∙ c.loop-place.invariant
