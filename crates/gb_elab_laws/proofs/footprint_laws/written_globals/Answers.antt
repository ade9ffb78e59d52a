use Rattle.gb_laws.proofs.Leaves.{routine_leaves}
use Rattle.gb_prog.proofs.Meanings.{means_there}
use Rattle.gb_call.proofs.Unwritten.{procedure_left}
use Rattle.gb_elab_laws.proofs.footprint_laws.written_globals.Goals as goal

pub returns : goal.returns
returns c ds scoped g over p xs e r d x s vs m = routine_leaves g r x (procedure_left g x ds (means_there ds scoped g over) p xs e s r d) vs m
