use Rattle.std.proofs.Common.{rules}
use Rattle.gb_sim.proofs.NeedSteps.{equal_out}
use Rattle.gb_sim.proofs.sim.+equal_in.Goals as goal

pub equal_in-returns : goal.equal_in-returns
equal_in-returns t c = let e = equal_out c.args.form.now in search (rules, e)
