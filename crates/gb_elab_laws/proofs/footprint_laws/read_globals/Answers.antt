use Rattle.gb_elab_laws.proofs.ReadGlobals.{reads_alike}
use Rattle.gb_elab_laws.proofs.footprint_laws.read_globals.Goals as goal

pub returns : goal.returns
returns c ds scoped g over p xs e r d m n h vs = reads_alike ds scoped g over m n p xs e r d h vs
