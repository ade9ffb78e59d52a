use Rattle.gb_typing.proofs.Quantified.{inner_typed, inner_meaning}
use Rattle.gb_typing.proofs.form_laws.bound_values.Goals as goal

pub returns : goal.returns
returns x = record { typed = inner_typed; meaning = inner_meaning }
