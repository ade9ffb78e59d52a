use Rattle.gb_arguments.proofs.ChosenKept.{all_kept}
use Rattle.gb_arguments.proofs.TypesSigned.{types_signed}
use Rattle.gb_arguments.proofs.fit_laws.chosen_kept.Goals as goal

pub returns : goal.returns
returns c = λ ds scoped w size table cs chosen choice. all_kept ds scoped (types_signed ds scoped) w size table cs chosen choice
