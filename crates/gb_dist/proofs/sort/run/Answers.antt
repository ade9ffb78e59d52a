use Rattle.std.proofs.Common.{arith}
use Rattle.gb_dist.proofs.Runs.{mass_more, mass_rest, run_step}
use Rattle.gb_dist.proofs.sort.run.Goals as goal

pub overflow_add-weight : goal.overflow_add-weight
overflow_add-weight c =
    let d = c.index-list-end-in-loop-end.result in
    omega (arith, c.loop-end.invariant.mass (λ v. 1) d, mass_more (λ v. 1) c.args.list.now c.loop-end.end d c.loop-end-test.true, mass_rest (λ v. 1) c.args.list.now c.args.from, c.requires.small)

pub loop-end-preserved : goal.loop-end-preserved
loop-end-preserved c = record {
  next = omega arith;
  last = omega arith;
  above = omega arith;
  mass = λ f d. run_step f c.args.list.now c.args.from c.loop-end.end c.loop-end.weight _ _ _ d _ c.requires.same c.requires.within c.loop-end-test.true c.if-list-end.true (c.loop-end.invariant.mass f d);
}
