use Rattle.gb_typing.proofs.Ambient.{one_typed, one_meaning, pair_typed, pair_meaning}
use Rattle.gb_typing.proofs.form_laws.every_memory.Goals as goal

pub returns : goal.returns
returns x = record { one_typed = one_typed; one = one_meaning; pair_typed = pair_typed; pair = pair_meaning }
