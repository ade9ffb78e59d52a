use Rattle.gb_elab_laws.proofs.Conditioned.{conditions_typed}
use Rattle.gb_elab_laws.proofs.Contracted.{call_step_typed}
use Rattle.gb_elab_laws.proofs.Cuts.{body_typed}
use Rattle.gb_elab_laws.proofs.Kept.{abstract_step_typed}
use Rattle.gb_elab_laws.proofs.Sampled.{rule_typed}
use Rattle.gb_elab_laws.proofs.step_laws.typed_rules.Goals as goal

pub returns : goal.returns
returns x = record { bodies = body_typed; relational = rule_typed; calls = call_step_typed; adversaries = λ ds scoped q t n s h r e ls rs. abstract_step_typed ds scoped q t ls rs n s h r e; probabilities = conditions_typed }
