use Rattle.gb_arguments.proofs.PutEquations.{is_equation}
use Rattle.gb_arguments.proofs.put_laws.equations_of_globals.Goals as goal

pub returns : goal.returns
returns c = λ ds g w F once e xs m k. is_equation ds g w F once e xs m k
