use Rattle.gb_arguments.proofs.PutModules.{complete_equation}
use Rattle.gb_arguments.proofs.put_laws.computed_footprints.Goals as goal

pub returns : goal.returns
returns c = λ ds i scoped over once known e w. complete_equation ds i scoped over once known e w
