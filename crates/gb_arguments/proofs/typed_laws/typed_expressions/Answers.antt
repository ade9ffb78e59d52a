use Rattle.gb_arguments.proofs.Expressed.{all_expressed}
use Rattle.gb_arguments.proofs.typed_laws.typed_expressions.Goals as goal

pub returns : goal.returns
returns c = λ g ss w pf gs h. all_expressed g ss w pf gs h
