use Rattle.gb_arguments.proofs.AsksNamed.{program_asks}
use Rattle.gb_arguments.proofs.Parts.{all_met}
use Rattle.gb_arguments.proofs.TypesSigned.{types_signed}
use Rattle.gb_arguments.proofs.asked_laws.asks.Goals as goal

pub returns : goal.returns
returns c = λ ds scoped unspelt i chosen m k e n t h p f. program_asks ds scoped unspelt (types_signed ds scoped) i chosen m k e n t h p (all_met ds (m, k) n t p h f)
