use Rattle.gb_arguments.proofs.Parts.{all_found}
use Rattle.gb_arguments.proofs.fit_laws.unbounded.Goals as goal

pub returns : goal.returns
returns c = λ ds k b vs p e. let f = all_found ds k b vs p e in f.unbounded
