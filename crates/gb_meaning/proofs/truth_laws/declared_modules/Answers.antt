use Rattle.gb_meaning.proofs.DeclaredBinders.{holds-bound}
use Rattle.gb_meaning.proofs.truth_laws.declared_modules.Goals as goal

pub returns : goal.returns
returns c = λ ds q h. holds-bound ds q h
