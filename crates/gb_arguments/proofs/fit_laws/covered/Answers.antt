use Rattle.gb_arguments.proofs.Excluded.{covers_module}
use Rattle.gb_arguments.proofs.TypesSigned.{types_signed}
use Rattle.gb_arguments.proofs.fit_laws.covered.Goals as goal

pub returns : goal.returns
returns c = λ ds scoped unspelt i chosen ordered m k e ys f. covers_module ds scoped unspelt (types_signed ds scoped) i chosen ordered m k e ys f
