use Rattle.gb_typing.proofs.SamePrograms.{run_same, size_same}
use Rattle.gb_typing.proofs.setting_laws.programs.Goals as goal

pub returns : goal.returns
returns c = record { runs = λ g h c e s m. run_same g h s c e m; denominator = λ g h c e. size_same g h c e }
