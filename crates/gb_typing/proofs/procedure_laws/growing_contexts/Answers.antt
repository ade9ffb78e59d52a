use Rattle.gb_typing.proofs.Declaring.{in_goal, in_later}
use Rattle.gb_typing.proofs.procedure_laws.growing_contexts.Goals as goal

pub returns : goal.returns
returns x = record {
  later = λ ds es scoped w r t e. let g = in_later ds es scoped w in g.procedures r t e;
  goals = λ ds q w fs r t e. let g = in_goal _ q w fs in g.procedures r t e;
}
