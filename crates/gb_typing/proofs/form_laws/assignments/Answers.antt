use Rattle.gb_typing.proofs.Assigned.{replaced_typed, replaced_meaning}
use Rattle.gb_typing.proofs.form_laws.assignments.Goals as goal

pub returns : goal.returns
returns x = record { typed = replaced_typed; meaning = replaced_meaning }
