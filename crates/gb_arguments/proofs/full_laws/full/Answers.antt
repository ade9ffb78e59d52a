use Rattle.gb_arguments.proofs.FullProgram.{program_full}
use Rattle.gb_arguments.proofs.TypesSigned.{types_signed}
use Rattle.gb_arguments.proofs.full_laws.full.Goals as goal

pub returns : goal.returns
returns c = λ ds scoped unspelt i chosen fits m k e n t h p met l. program_full ds scoped unspelt (types_signed ds scoped) i chosen fits m k e n t h p met l
