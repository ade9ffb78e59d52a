use Rattle.std.proofs.Common.{◌++◌}
use Rattle.gb_arguments.proofs.GivenBinders.{all_given}
use Rattle.gb_arguments.proofs.TypesSigned.{types_signed}
use Rattle.gb_arguments.proofs.fit_laws.given_for_binders.Goals as goal

pub returns : goal.returns
returns c = λ ds es scoped none unspelt i chosen ordered kept more bs w ks m fit. all_given ds es scoped none unspelt (types_signed (ds ++ es) scoped) i chosen ordered kept more bs w ks m fit
