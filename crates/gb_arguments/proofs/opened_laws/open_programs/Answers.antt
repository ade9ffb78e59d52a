use Rattle.gb_arguments.proofs.OpenPrograms.{open_is_linked}
use Rattle.gb_arguments.proofs.opened_laws.open_programs.Goals as goal

pub returns : goal.returns
returns c = λ ds scoped i chosen h m n t known fit. open_is_linked ds scoped i chosen h m n t known fit
