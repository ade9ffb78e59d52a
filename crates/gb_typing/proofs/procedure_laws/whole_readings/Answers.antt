use Rattle.gb_typing.proofs.WholeReads.{read_whole}
use Rattle.gb_typing.proofs.procedure_laws.whole_readings.Goals as goal

pub returns : goal.returns
returns X c = λ read looks base ds scoped alike n f p e. read_whole read looks base ds scoped alike n f p e
