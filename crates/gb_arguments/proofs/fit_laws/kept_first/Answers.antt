use Rattle.std.proofs.Common.{◌++◌}
use Rattle.gb_arguments.proofs.KeptFirst.{kept_first as all_kept}
use Rattle.gb_arguments.proofs.TypesSigned.{types_signed}
use Rattle.gb_arguments.proofs.fit_laws.kept_first.Goals as goal

pub returns : goal.returns
returns c = λ ds es scoped none unspelt i chosen ordered kept cs u ps qs ns w m k there p h. all_kept ds es scoped none unspelt (types_signed (ds ++ es) scoped) i chosen ordered cs u ps qs kept ns w m k there p h
