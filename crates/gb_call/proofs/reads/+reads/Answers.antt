use Rattle.std.proofs.Common.{rules, arith}
use Rattle.gb_call.proofs.ReadSteps.{reads_next, reads_split}
use Rattle.gb_call.proofs.reads.+reads.Goals as goal

pub in_term-returns : goal.in_term-returns
in_term-returns t c = let e = reads_split c.args.term.now c.args.side.now c.args.found in search (rules, e)

pub in_terms-loop-i-preserved : goal.in_terms-loop-i-preserved
in_terms-loop-i-preserved t c =
    let e = reads_next c.args.found c.args.side.now c.args.list.now c.loop-i.i c.index-list-i.result (omega (arith, c.requires, c.loop-i-test.true)) c.index-list-i.is in
    search (rules, e, c.loop-i.invariant)
