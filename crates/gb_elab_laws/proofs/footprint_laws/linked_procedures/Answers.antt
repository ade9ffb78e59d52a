use Rattle.gb_elab_laws.proofs.Linked.{linked_runs}
use Rattle.gb_elab_laws.proofs.footprint_laws.linked_procedures.Goals as goal

pub returns : goal.returns
returns c ds scoped g over p l e = linked_runs ds scoped g over p l e
