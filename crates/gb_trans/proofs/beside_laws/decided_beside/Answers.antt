use Rattle.gb_trans.proofs.BesideIsSound.{beside_leads}
use Rattle.gb_trans.proofs.beside_laws.decided_beside.Goals as goal

pub returns : goal.returns
returns x = beside_leads
