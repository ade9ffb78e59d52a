use Rattle.gb_terms.proofs.SameModules.{mexp_test}
use Rattle.gb_terms.proofs.same.same_module.Goals as goal

pub returns : goal.returns
returns c = mexp_test c.same_mexp.result c.args.a.now c.args.b.now c.same_mexp.ensures
