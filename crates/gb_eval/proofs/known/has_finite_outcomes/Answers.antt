use Rattle.gb_eval.proofs.Layers.{finite_outcomes}
use Rattle.gb_eval.proofs.known.has_finite_outcomes.Goals as goal

pub returns-in-Distr : goal.returns-in-Distr
returns-in-Distr c = finite_outcomes c.args.ty.now c.in-Distr.outcomes c.get.result.now c.is_finite.result c.in-Distr.is c.get.ensures c.is_finite.ensures
