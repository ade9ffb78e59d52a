use Rattle.std.proofs.Common.{ap}
use Rattle.gb_eval.specs.Totals.{total_of}
use Rattle.gb_eval.proofs.Environments.{environment_is}
use Rattle.gb_eval.proofs.Stops.{gives_as}
use Rattle.gb_eval.proofs.eval.total_in.Goals as goal

pub returns-clause-value : goal.returns-clause-value
returns-clause-value c = gives_as (λ x. x) _ _ c.total.result (ap (λ e. total_of e.operators c.args.t.now) (environment_is c.args.env.now)) c.total.ensures.value
