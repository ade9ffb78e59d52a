use Rattle.gb_meaning.proofs.Fronts as fronts
use Rattle.gb_meaning.proofs.truth_laws.without_modules.Goals as goal

pub returns : goal.returns
returns c = λ ds f i s h. fronts.without_modules ds f i s h
