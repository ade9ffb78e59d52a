use Rattle.gb_arguments.proofs.Basis.{first_basis}
use Rattle.gb_arguments.proofs.chosen_laws.first_settings.Goals as goal

pub returns : goal.returns
returns c = λ before later scoped i cs. first_basis before later scoped i cs
