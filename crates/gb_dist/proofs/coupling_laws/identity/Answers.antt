use Rattle.gb_dist.proofs.Basic.{coupling_identity}
use Rattle.gb_dist.proofs.coupling_laws.identity.Goals as goal

pub returns : goal.returns
returns g c = λ l k h o. coupling_identity g.P.Property.Holds l k h o
