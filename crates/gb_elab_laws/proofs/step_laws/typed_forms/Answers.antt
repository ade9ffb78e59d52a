use Rattle.gb_elab_laws.proofs.Brought.{hints_typed, steps_typed, uses_typed}
use Rattle.gb_elab_laws.proofs.Events.{events_typed}
use Rattle.gb_elab_laws.proofs.step_laws.typed_forms.Goals as goal

pub returns : goal.returns
returns x = record { conclusions = steps_typed; uses = λ ds w lemmas q t alone. uses_typed ds w q t lemmas alone; hints = λ ds w lemmas q t alone. hints_typed ds w q t lemmas alone; events = events_typed }
