use Rattle.gb_eval.specs.Findings.{shown}
use Rattle.gb_eval.proofs.Layers.{uniform_nullary}
use Rattle.gb_eval.proofs.Stops.{gives_as}
use Rattle.gb_eval.proofs.operators.nullary.Goals as goal

pub returns-in-Distr : goal.returns-in-Distr
returns-in-Distr c =
    gives_as shown _ _ c.uniform_over.result (uniform_nullary c.args.op c.args.ty.now c.in-Distr.outcomes c.get.result.now c.in-Uniform.is c.in-Distr.is c.get.ensures) c.uniform_over.ensures
