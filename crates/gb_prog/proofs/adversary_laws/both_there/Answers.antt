use Rattle.gb_prog.proofs.Meanings.{both_mean}
use Rattle.gb_prog.proofs.adversary_laws.both_there.Goals as goal

pub returns : goal.returns
returns x ds scoped g over p q a os ps e f same = both_mean ds scoped g over p q a os ps e f same
