use Rattle.gb_terms.specs.declared.term.Instr.{out-Instr}
use Rattle.gb_rewrite.specs.Unfolded.{statement_at}
use Rattle.gb_rewrite.proofs.Loops.{mapped, all_mapped}
use Rattle.gb_rewrite.proofs.bodies.+statement_unfolded.Goals as goal

pub all_statements_unfolded-loop-i-preserved : goal.all_statements_unfolded-loop-i-preserved
all_statements_unfolded-loop-i-preserved t c =
    mapped (λ i. statement_at c.args.name.now c.args.body.now (out-Instr i)) c.args.list.now c.loop-i.i-index c.i-item.result c.loop-i.made c.push.new.self c.in_ok-i.i
    c.loop-i-test.true c.i-item.is c.loop-i.invariant c.in_ok-i.ensures c.in_ok-push.ensures.ok

pub all_statements_unfolded-returns : goal.all_statements_unfolded-returns
all_statements_unfolded-returns t c =
    all_mapped (λ i. statement_at c.args.name.now c.args.body.now (out-Instr i)) c.args.list.now c.loop-i.i-index c.loop-i.made c.loop-i-test.false c.loop-i.invariant
