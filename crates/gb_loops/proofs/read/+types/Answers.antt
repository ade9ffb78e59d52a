use Rattle.std.proofs.Common.{◌∙◌, sym, arith}
use Rattle.gb_loops.proofs.ReadSteps.{first_found, first_next}
use Rattle.gb_loops.proofs.read.+types.Goals as goal

pub first_type-returns-in-Some : goal.first_type-returns-in-Some
first_type-returns-in-Some t c =
    sym
    (first_found c.args.side.now c.args.variable.now c.args.list.now c.loop-i.i c.args.count c.index-list-i.result (omega (arith, c.loop-i-test.true)) (omega (arith, c.requires)) c.index-list-i.is c.loop-i.invariant c.in-Some.ty.now
    (sym c.in-Some.ensures))

pub first_type-loop-i-preserved : goal.first_type-loop-i-preserved
first_type-loop-i-preserved t c =
    first_next c.args.side.now c.args.variable.now c.args.list.now c.loop-i.i c.index-list-i.result (omega (arith, c.requires, c.loop-i-test.true)) c.index-list-i.is c.loop-i.invariant
    ∙ sym c.in_default.ensures
