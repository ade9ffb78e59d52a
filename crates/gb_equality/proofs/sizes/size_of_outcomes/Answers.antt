use Rattle.gb_equality.proofs.Products.{outcomes_size}
use Rattle.gb_equality.proofs.sizes.size_of_outcomes.Goals as goal

pub returns-in-Distr : goal.returns-in-Distr
returns-in-Distr c = outcomes_size c.args.ty.now c.in-Distr.outcomes c.get.result.now c.size.result c.in-Distr.is c.get.ensures c.size.ensures
