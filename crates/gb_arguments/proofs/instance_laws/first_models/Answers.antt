use Rattle.gb_arguments.proofs.FirstModel.{first_model}
use Rattle.gb_arguments.proofs.instance_laws.first_models.Goals as goal

pub returns : goal.returns
returns c = λ before later scoped i model axioms. first_model before later scoped i model axioms
