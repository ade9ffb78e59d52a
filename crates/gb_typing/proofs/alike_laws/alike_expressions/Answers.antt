use Rattle.gb_typing.proofs.ExpressionsAlike.{opens, expression_applied, expression_open, procedure_alike}
use Rattle.gb_typing.proofs.alike_laws.alike_expressions.Goals as goal

pub returns : goal.returns
returns X c = record { opened = opens; applied = λ ms ks ls s. expression_applied ms ks ls s; expressions = λ ms ks ls s. expression_open ms ks ls s; procedures = λ ms ks ls s. procedure_alike ms ks ls s }
